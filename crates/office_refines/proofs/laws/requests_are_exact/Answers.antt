use Rattle.office_refines.proofs.Serving.{serve_exact}
use Rattle.office_refines.proofs.laws.requests_are_exact.Goals as goal

pub returns : goal.returns
returns c = λ h visit request legal.
    serve_exact h visit request (c.refusals_are_exact.ensures h visit request legal) (c.answers_are_exact.ensures h visit request legal) (c.rows_are_exact.ensures h visit request legal)
