use Rattle.office_refines.proofs.Common.{ap, sym, ◌∙◌, same_Some, serve}
use Rattle.office_refines.proofs.laws.alike_rows_are_served_alike.Goals as goal

pub returns-clause-answers : goal.returns-clause-answers
returns-clause-answers c = λ h k visit request legal_h legal_k same.
    ap (λ p. p.0) (same_Some _ _ (sym (c.requests_are_exact.ensures h visit request legal_h) ∙ ap (λ t. serve t visit request) same ∙ c.requests_are_exact.ensures k visit request legal_k))

pub returns-clause-rows : goal.returns-clause-rows
returns-clause-rows c = λ h k visit request legal_h legal_k same.
    ap (λ p. p.1) (same_Some _ _ (sym (c.requests_are_exact.ensures h visit request legal_h) ∙ ap (λ t. serve t visit request) same ∙ c.requests_are_exact.ensures k visit request legal_k))
