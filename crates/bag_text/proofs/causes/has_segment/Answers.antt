use Rattle.bag_text.proofs.Common.{eqb, rules, bytes_eq, any_from_yields_List, YieldsList-from_slice_split}
use Rattle.bag_text.proofs.causes.has_segment.Goals as goal

pub returns : goal.returns
returns c = any_from_yields_List (λ s. bytes_eq s c.args.wanted.now) _ _ _ c.any.ensures.ran (YieldsList-from_slice_split _ (λ b. eqb b 47) _ c.split.ensures.rest c.split.ensures.done c.split.ensures.closure (λ x b q k. search rules)) (λ x b q k. search rules)
