use Rattle.bag_check.proofs.Lemmas.{◌∙◌, ◌&&◌, sym, rules, cow_str_bytes, YieldsList-from_slice, any_from_yields_List, pair_in, is_oxum, counts_of, are_others, any_oxum}
use Rattle.bag_check.proofs.info.has_others.Goals as goal

pub returns : goal.returns
returns c =
    any_from_yields_List (λ k. is_oxum (pair_in k) && are_others c.args.bag.now (counts_of (cow_str_bytes k.1))) _ _ _ c.any.ensures.ran (YieldsList-from_slice _ c.iter.ensures.rest) (λ x b q k. search rules)
    ∙ sym (any_oxum (λ value. are_others c.args.bag.now (counts_of value)) c.args.pairs.now)
