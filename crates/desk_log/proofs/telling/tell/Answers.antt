use Rattle.std.proofs.Common.{rules}
use Rattle.desk_log.specs.Logging.{log_of}
use Rattle.desk_log.proofs.LoggingLemmas.{told}
use Rattle.desk_log.proofs.telling.tell.Goals as goal

pub returns : goal.returns
returns g c =
    let at = c.write_whole.ensures in
    told c.args.line.now.bytes c.write_whole.result (log_of g.E.Write c.args.log.now) (log_of g.E.Write c.write_whole.new.writer) (search rules) at.calm (search rules) at.failed
