use Rattle.office_commands.proofs.Common.{arith, Done}
use Rattle.office_commands.proofs.ListeningLemmas.{unheard}
use Rattle.office_commands.proofs.listening.serve_at.Goals as goal

pub returns-in-Err-clause-serves : goal.returns-in-Err-clause-serves
returns-in-Err-clause-serves g c = unheard Done g.S.Store c.args.day c.args.office.now c.in-Err.fault c.args.port c.args.count _ c.in-Err.ensures.unheard (omega arith)
