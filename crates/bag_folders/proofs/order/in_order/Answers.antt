use Rattle.bag_folders.proofs.Common.{rules, string_bytes, answers_always, comes_before}
use Rattle.bag_folders.proofs.OrderLemmas.{by_path}
use Rattle.bag_folders.proofs.order.in_order.Goals as goal

pub returns : goal.returns
returns c = record {
  same = c.sort_unstable_by.ensures.permutation;
  order = c.sort_unstable_by.ensures.sorted (λ a b. comes_before (string_bytes a.path) (string_bytes b.path)) by_path (answers_always _ _ _ (λ f a r g h. search rules));
}
