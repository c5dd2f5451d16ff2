use Rattle.office_commands.proofs.Common.{Ok, Err, Served, IsLogOf}
use Rattle.desk_listening.specs.declared.accepting.AcceptFailed.{AcceptFailed}
use Rattle.desk_log.specs.Logging.{log_of}
use Rattle.office_commands.proofs.ListeningLemmas.{all_own, served_all, served_fewer}
use Rattle.office_commands.proofs.listening.serve_sockets.Goals as goal

pub returns-in-Ok-clause-serves : goal.returns-in-Ok-clause-serves
returns-in-Ok-clause-serves g c =
    let it = c.in-Ok.ensures.served in
    served_all g.S.Store c.args.day c.args.office.now c.serve_connections.new.office c.args.count c.in-Ok.field-0 it.0 (λ served. IsLogOf {T = Served} {E = AcceptFailed} c.args.day (Ok c.in-Ok.field-0) c.args.count served (log_of g.E.Write c.args.log.now) (log_of g.E.Write c.serve_connections.new.log))
    c.in-Ok.ensures.sum it.2 it.3 (all_own g.S.Store c.args.day it.0 c.args.office.now c.serve_connections.new.office it.3, it.7)

pub returns-in-Err-clause-serves : goal.returns-in-Err-clause-serves
returns-in-Err-clause-serves g c =
    let it = c.in-Err.ensures.served in
    served_fewer g.S.Store c.args.day c.args.office.now c.serve_connections.new.office c.args.count c.in-Err.failure.served it.0 (λ served. IsLogOf {T = Served} {E = AcceptFailed} c.args.day (Err c.in-Err.failure) c.args.count served (log_of g.E.Write c.args.log.now) (log_of g.E.Write c.serve_connections.new.log))
    c.in-Err.ensures.fewer it.2 it.3 (all_own g.S.Store c.args.day it.0 c.args.office.now c.serve_connections.new.office it.3, it.7)
