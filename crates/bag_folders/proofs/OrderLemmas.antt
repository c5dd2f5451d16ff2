-- The order of files.
use Rattle.bag_folders.proofs.Common.{string_bytes, nat_list_cmp_total, comes_before, Listed}
use Rattle.std.specs.Cmp.{IsStrictWeakOrder}
use Rattle.std.proofs.lemmas.List.MinMax.{ranks_by}

-- files are ordered by their paths
pub by_path : IsStrictWeakOrder (λ (a : Listed) b. comes_before (string_bytes a.path) (string_bytes b.path))
by_path = ranks_by nat_list_cmp_total (λ (l : Listed). string_bytes l.path)
