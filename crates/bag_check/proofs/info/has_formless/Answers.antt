use Rattle.bag_check.proofs.Lemmas.{◌∙◌, ◌&&◌, not, sym, rules, is_some, cow_str_bytes, YieldsList-from_slice, any_from_yields_List, pair_in, is_oxum, counts_of, any_oxum}
use Rattle.bag_check.proofs.info.has_formless.Goals as goal

pub returns : goal.returns
returns c =
    any_from_yields_List (λ k. is_oxum (pair_in k) && not (is_some (counts_of (cow_str_bytes k.1)))) _ _ _ c.any.ensures.ran (YieldsList-from_slice _ c.iter.ensures.rest) (λ x b q k. search rules)
    ∙ sym (any_oxum (λ value. not (is_some (counts_of value))) c.args.pairs.now)
