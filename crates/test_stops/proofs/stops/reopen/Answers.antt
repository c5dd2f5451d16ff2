use Rattle.test_stops.proofs.Common.{image_of, file_state, this_version}
use Rattle.test_stops.proofs.Reopened.{picks_up, shows_version}
use Rattle.test_stops.proofs.Stopping.{either_found, run_found}
use Rattle.test_stops.proofs.stops.reopen.Goals as goal

pub returns-in-Ok-adopt : goal.returns-in-Ok-adopt
returns-in-Ok-adopt g c =
    let image = image_of g.D.Disk c.args.files in
    let conn = file_state c.in-Ok.conn in
    let office = file_state c.in-Ok-adopt.office in
    let found = picks_up image conn office c.in-Ok-adopt.ensures.survives (λ early. (c.in-Ok.ensures.found early).holds) (λ early. (c.in-Ok.ensures.opened early).0) c.in-Ok-adopt.ensures.found in
    record {
      found = found;
      version = shows_version conn office this_version c.in-Ok-adopt.ensures.same c.in-Ok-adopt.ensures.version;
      either = λ clean earlier later. either_found image office earlier later (found clean);
      after_run = λ clean h items given. run_found image office h items given (found clean);
    }
