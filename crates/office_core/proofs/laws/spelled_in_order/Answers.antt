use Rattle.office_core.proofs.Common.{sym, ap, subst, SpellsRules, SpellsCallers}
use Rattle.office_core.proofs.PolicyPlaces.{tree_rules, tree_callers}
use Rattle.office_core.proofs.laws.spelled_in_order.Goals as goal

pub returns-clause-rules : goal.returns-clause-rules
returns-clause-rules c = λ text policy spells.
    subst (SpellsRules spells.tree) (sym (ap (λ contents. contents.rules) spells.is)) (tree_rules spells.tree spells.sound)

pub returns-clause-callers : goal.returns-clause-callers
returns-clause-callers c = λ text policy spells.
    subst (SpellsCallers spells.tree) (sym (ap (λ contents. contents.callers) spells.is)) (tree_callers spells.tree spells.sound)
