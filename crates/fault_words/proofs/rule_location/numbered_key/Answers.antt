use Rattle.fault_words.proofs.Common.{rules, ◌≡◌, ◌≢◌, ◌∙◌, ◌-◌, ◌<◌, ◌≤◌, suc, List, Some, None, ap, arith, length, sym, slice_index_or, slice_get-get_or, slice_get_past, items_view, Value, elements, numbered_key}
use Rattle.fault_words.proofs.RuleLocations.{key_at}
use Rattle.fault_words.proofs.rule_location.numbered_key.Goals as goal

pub returns-in-Some : goal.returns-in-Some
returns-in-Some c =
    let values = c.deref.result.now in
    let place = c.args.number - 1 in
    let value = c.in-Some.value.now in
    let some : c.args.number ≢ 0 = search rules in
    let next : c.args.number ≡ suc place = omega (arith, some) in
    let within : place < length values = search rules in
    let is : value ≡ slice_index_or values place value = search rules in
    c.value_key.ensures
    ∙ key_at c.args.with_days c.args.number place values (Some value) next (sym (slice_get-get_or values place value within ∙ ap Some (sym is)))
    ∙ ap (λ (xs : List Value). numbered_key c.args.with_days c.args.number (Some (elements (items_view xs)))) c.deref.ensures.value

pub returns-in-None : goal.returns-in-None
returns-in-None c =
    let values = c.deref.result.now in
    let place = c.args.number - 1 in
    let some : c.args.number ≢ 0 = search rules in
    let next : c.args.number ≡ suc place = omega (arith, some) in
    let past : length values ≤ place = search rules in
    key_at c.args.with_days c.args.number place values None next (sym (slice_get_past values place past))
    ∙ ap (λ (xs : List Value). numbered_key c.args.with_days c.args.number (Some (elements (items_view xs)))) c.deref.ensures.value
