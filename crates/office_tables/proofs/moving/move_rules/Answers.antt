use Rattle.office_tables.proofs.Lemmas.{on_ok_weaker, schema_at, Fourth, Fifth, builds_rule_5}
use Rattle.office_tables.proofs.MovedRules.{copies_rules, empties_rules, rules_moved, new_is_empty}
use Rattle.office_tables.proofs.moving.move_rules.Goals as goal

pub returns-clause-moved : goal.returns-clause-moved
returns-clause-moved g c clean rows was =
    on_ok_weaker c.take_over.result (λ it. let grown = it.4 (schema_at Fourth) (schema_at Fifth) builds_rule_5 was.office.whole in
    let copied = copies_rules _ _ _ (grown.whole was.office.whole) (new_is_empty _ _ grown) it.5 in
    rules_moved _ _ grown rows _ _ was copied (empties_rules _ _ _ copied.whole it.6)) (c.take_over.ensures.ran clean)
