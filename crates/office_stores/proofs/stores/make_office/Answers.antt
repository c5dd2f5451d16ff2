use Rattle.office_stores.proofs.Common.{◌∙◌, ap₂, subst, sym, state, History, new_history, IsStoredBy}
use Rattle.office_stores.proofs.stores.make_office.Goals as goal

pub returns-in-Ok-clause-not_empty : goal.returns-in-Ok-clause-not_empty
returns-in-Ok-clause-not_empty g c more = let never = sym c.in-Ok.is ∙ c.create.ensures.not_empty more in absurd (cc)

pub returns-in-Ok-clause-made : goal.returns-in-Ok-clause-made
returns-in-Ok-clause-made g c clean =
    subst (λ (h : History). IsStoredBy h (state g.S.Store c.in-Ok.office)) (ap₂ new_history c.limits.ensures.0 c.limits.ensures.1) (c.in-Ok.ensures.made clean)
