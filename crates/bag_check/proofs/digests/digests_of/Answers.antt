use Rattle.bag_check.proofs.Lemmas.{Bor, List, ℕ, [], slice_index_or, file_of, files_of, has_contains, has_map, item_has}
use Rattle.bag_check.proofs.digests.digests_of.Goals as goal

abbrev none : Bor (List ℕ) × Bor (List ℕ)
none = (record { ref_ptr = (0, 0); now = [] }, record { ref_ptr = (0, 0); now = [] })

pub digest_of-requires : goal.digest_of-requires
digest_of-requires c =
    let files = c.args.files.now in
    let file = slice_index_or files c.loop-file.file-index none in
    c.requires (file_of file) (has_contains (files_of files) (file_of file) (has_map file_of files file (item_has files c.loop-file.file-index none c.loop-file-test.true)))
