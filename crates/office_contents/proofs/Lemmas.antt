-- The lemmas of this crate that several proofs of its functions cite, passed on from one place. Declares nothing.
pub use Rattle.office_contents.proofs.Common.{◌+◌, ◌==◌, [], All-from_recursion, AllByRecursion, ap, AreFilesDropped, arith, at_drop_more, Bool, content_at, content_numbered, content_referred, contents_of, Database, drop, false, file_at, FileRow, filter, HasCleanDisk, IfOk-weaker, int_at, is_content, is_intact, IsMarkedPut, IsOffice, IsTidied, HasSameFiles, length, List, list_all, list_all_push, map, not, Option, option_map, pos, references_of, refl, Row, rules, sha256, shown_path, ShowsFile, slice_get, slice_index_or, Some, StandOnce, state, subst, sym, tables_of, take, take_all, to_z-of_z, true, vec_len, w64, ℕ, ℤ, ◌∙◌, ◌∷◌, ◌≡◌, ◌⊎◌}
pub use Rattle.office_contents.proofs.ContentLemmas.{adds_content, any_is, drop_contents, drop_once, drop_references, drop_used, finds_alike, finds_marked, finds_users, is_marked_put, is_new_content, kept_office, lists_contents, put_once, removes_content, stands_once, tidied_then, tidies_removed, tidies_used}
pub use Rattle.office_contents.proofs.FileLemmas.{adds_file, drops_files, finds_content, finds_contents, finds_next, gathers_files, lists_files, reference_at}
pub use Rattle.office_contents.proofs.InTurn.{clean_first, turn_next}
