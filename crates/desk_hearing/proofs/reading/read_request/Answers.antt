use Rattle.desk_hearing.proofs.Lemmas.{err_from_is_err_and, unremembered}
use Rattle.desk_hearing.proofs.reading.read_request.Goals as goal

pub returns-in_err-routes-clause-whole : goal.returns-in_err-routes-clause-whole
returns-in_err-routes-clause-whole g c =
    let p = err_from_is_err_and c.from_residual.result c.from_residual.ensures.1 in
    rw (p.1, p.2) (unremembered _)
