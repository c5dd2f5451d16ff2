use Rattle.bag_text.proofs.Lemmas.{eqb, ◌∙◌, ap, length, rules, unwrap_or, YieldsList-from_slice, position_from_yields_List, found_or_len}
use Rattle.bag_text.proofs.declaration.whole_len.Goals as goal

pub returns : goal.returns
returns c =
    let e = position_from_yields_List (λ b. eqb b 46) _ _ _ c.position.ensures.ran (YieldsList-from_slice _ c.iter.ensures.rest) (λ x b q k. search rules) in
    c.unwrap_or.ensures ∙ ap (λ r. unwrap_or r (length c.args.value.now)) e ∙ found_or_len (λ b. eqb b 46) c.args.value.now
