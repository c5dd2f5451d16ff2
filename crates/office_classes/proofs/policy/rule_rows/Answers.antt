use Rattle.office_classes.proofs.Common.{rules, ◌≡◌, ◌+◌, ◌++◌, ◌∷◌, [], ◌∙◌, ap, sym, append-nil, append_assoc, drop, rule_row, rule_rows}
use Rattle.std.proofs.lemmas.List.{at_drop_all, at_drop_more}
use Rattle.office_classes.proofs.policy.rule_rows.Goals as goal

pub loop-rule-preserved : goal.loop-rule-preserved
loop-rule-preserved c =
    let all = c.rules-rules.result.now in
    let i = c.loop-rule.rule-index in
    let rows = c.loop-rule.rows.items in
    let place = c.loop-rule.place in
    let rule = c.rule-item.result in
    let pushed : c.push.new.self.items ≡ c.loop-rule.rows.items ++ rule_row c.loop-rule.place c.rule-item.result ∷ [] = search rules in
    let more = rule_rows (place + 1) (drop (i + 1) all) in (
      search rules,
      ap (λ rows. rows ++ more) pushed
          ∙ append_assoc rows (rule_row place rule ∷ []) more
          ∙ ap (λ rule. rows ++ rule_row place rule ∷ more) c.rule-item.is
          ∙ sym (at_drop_more (λ left. rows ++ rule_rows place left) all i rule (search rules))
          ∙ c.loop-rule.invariant.1,
    )

pub returns-clause-rows : goal.returns-clause-rows
returns-clause-rows c =
    let rows = c.loop-rule.rows.items in
    sym (append-nil rows) ∙ sym (at_drop_all (λ left. rows ++ rule_rows c.loop-rule.place left) c.rules-rules.result.now c.loop-rule.rule-index c.loop-rule-test.false) ∙ c.loop-rule.invariant.1 ∙ search rules
