use Rattle.bag_text.proofs.Common.{eqb, length, rules, any_from_yields_List, YieldsList-from_slice_split}
use Rattle.bag_text.proofs.path.has_empty_segment.Goals as goal

pub returns : goal.returns
returns c = any_from_yields_List (λ s. eqb (length s) 0) _ _ _ c.any.ensures.ran (YieldsList-from_slice_split _ (λ b. eqb b 47) _ c.split.ensures.rest c.split.ensures.done c.split.ensures.closure (λ x b q k. search rules)) (λ x b q k. search rules)
