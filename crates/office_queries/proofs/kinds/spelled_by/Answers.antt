use Rattle.office_queries.proofs.Common.{rules, ◌≡◌, ◌<◌, length, get_or, sym, ap, ◌∙◌, contains_text, string_bytes}
use Rattle.office_queries.proofs.NamesSpelled.{has_now, has_still, spelled_next}
use Rattle.office_queries.proofs.kinds.spelled_by.Goals as goal

pub loop-rule-preserved : goal.loop-rule-preserved
loop-rule-preserved c =
    let all = c.args.rules.now in
    let i = c.loop-rule.rule-index in
    let item = c.rule-item.result in
    let low : i < length all = search rules in
    let at : item ≡ get_or all i item = search rules in
    let collections = c.loop-rule.collections in
    let classes = c.loop-rule.classes in
    let more = c.insert.new.self in
    let others = c.insert-in-loop-rule.new.self in
    let collection = string_bytes c.in_ok-clone.field-0 in
    let class = string_bytes c.in_ok-clone-2.field-0 in
    let same_collection : collection ≡ item.collection = search rules in
    let same_class : class ≡ item.class = search rules in
    let put = c.in_ok-insert.ensures.updates in
    let put_too = c.in_ok-insert-2.ensures.updates in
    spelled_next (contains_text collections) (contains_text classes) (contains_text more) (contains_text others) (has_still collections more collection put) (has_still classes others class put_too) all i item low c.loop-rule.invariant
    (ap (contains_text more) (sym (same_collection ∙ ap (λ r. r.collection) at)) ∙ has_now collections more collection put)
    (ap (contains_text others) (sym (same_class ∙ ap (λ r. r.class) at)) ∙ has_now classes others class put_too)
