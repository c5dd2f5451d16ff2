use Rattle.bag_text.proofs.Lemmas.{◌∙◌, ap, length, rules, unwrap_or, YieldsList-from_slice, position_from_yields_List, is_blank, found_or_len}
use Rattle.bag_text.proofs.manifest.sum_len.Goals as goal

pub returns : goal.returns
returns c =
    let e = position_from_yields_List is_blank _ _ _ c.position.ensures.ran (YieldsList-from_slice _ c.iter.ensures.rest) (λ x b q k. search rules) in
    c.unwrap_or.ensures ∙ ap (λ r. unwrap_or r (length c.args.line.now)) e ∙ found_or_len is_blank c.args.line.now
