use Rattle.bag_check.proofs.Common.{◌∙◌, ap, length, not, rules, unwrap_or, is_ascii_digit, YieldsList-from_slice, position_from_yields_List}
use Rattle.bag_text.proofs.LineLemmas.{found_or_len}
use Rattle.bag_check.proofs.oxum.digit_len.Goals as goal

pub returns : goal.returns
returns c =
    let e = position_from_yields_List (λ b. not (is_ascii_digit b)) _ _ _ c.position.ensures.ran (YieldsList-from_slice _ c.iter.ensures.rest) (λ x b q k. search rules) in
    c.unwrap_or.ensures ∙ ap (λ r. unwrap_or r (length c.args.text.now)) e ∙ found_or_len (λ b. not (is_ascii_digit b)) c.args.text.now
