use Rattle.bag_text.proofs.Lemmas.{◌∙◌, ap, length, rules, unwrap_or, YieldsList-from_slice, position_from_yields_List, is_end, found_or_len}
use Rattle.bag_text.proofs.lines.line_len.Goals as goal

pub returns : goal.returns
returns c =
    let e = position_from_yields_List is_end _ _ _ c.position.ensures.ran (YieldsList-from_slice _ c.iter.ensures.rest) (λ x b q k. search rules) in
    c.unwrap_or.ensures ∙ ap (λ r. unwrap_or r (length c.args.text.now)) e ∙ found_or_len is_end c.args.text.now
