use Rattle.bag_text.proofs.Lemmas.{[], ◌∷◌, ◌++◌, rules, comes_before, file_of, partitioned, IsPartitionPoint-from_clause}
use Rattle.bag_text.proofs.order.count_before_folder.Goals as goal

pub returns : goal.returns
returns c =
    IsPartitionPoint-from_clause (λ pair. comes_before (file_of pair).path (c.args.folder.now ++ 47 ∷ [])) c.args.files.now c.partition_point.result c.partition_point.ensures.partitioned (partitioned file_of (c.args.folder.now ++ 47 ∷ []) [] c.args.files.now c.requires) (λ a r q k. search rules)
