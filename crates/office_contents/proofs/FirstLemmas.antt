-- The lemmas of this crate on which several others rest, passed on from one place. Declares nothing.
pub use Rattle.office_contents.proofs.Columns.{all_given, only}
pub use Rattle.office_contents.proofs.Common.{◌&&◌, ◌+◌, ◌++◌, ◌+ℤ◌, ◌<◌, ◌==◌, [], agree, All-from_recursion, All-permutation, all-permutation, all_both, all_from, all_has, all_map, AllByRecursion, and-true, and_parts, answer_complete, answer_sound, ap, appended, ap₂, AreFilesDropped, AreUsed, AreUsedOr, arith, as_program, ascending-filter, ascending-map, ascending_weaker, Asks, AsksSome, Becomes, Binary, Blob, Bool, by_number, bytes_at, bytes_eq, bytes_eq-Decides, bytes_itself, bytes_under, cases_Bool, cast_int, cast_null, cast_row, Changes, Chosen, codes, col, column, Compare, content_after, content_at, content_in, content_number, content_numbered, content_referred, content_table, content_tree, ContentRow, contents_of, contents_without, Database, Datatype, Delete, drops, each_numbered, Edit, edit_of, Enforced, Eq, Equal, equal, Executes, false, few_numbered, file_at, file_in, file_table, file_tree, FileRow, files_by_path, filter, filter-map, filter_all, filter_same, find, finds_part, fold, ForeignKey, found_by, Given, Has, has_filtered, has_found, has_kept, has_mapped, has_null, has_number, id_in, ids_of, if◌then◌else◌, inl, inr, Insert, inserts, Int, int_at, int_eq, int_is, int_itself, is_alike, is_among, is_content, is_eq, is_eq-slice_cmp, is_file_at, is_file_of, is_intact, is_lt, is_null, is_true, IsAscending, IsContentAdded, IsContentStored, IsFileAdded, IsMarked, IsMarkedPut, IsNewContent, IsOffice, IsPermutation, IsPermutation-map, IsPermutation-sort_by, IsPermutation-sym, IsShaped, IsSorted, IsSorted-map, IsTidied, obeys_rule, HasSameFiles, StoresOnce, Key, last_number, length, Less, List, list_any, lit, lone, map, map-append, map-map, map_alike, map_more, map_push, mapped_has, Means, nat_cmp, nat_tests, next_id, next_rowid, None, none_before, not, NotNull, Null, number_alike, office_schema, Ok, one_numbered, op2, Option, option_map, or_parts, Ordering, output, output_cmp, passes, path_cmp, plain, pos, reads_one, reads_rising, reads_same, reads_scan, reads_some, recursion_from_All, references_of, references_where, references_within, references_without, refl, rising, Row, rowid, same_blob, same_int, same_key, same_Some, same_text, scan, sha256, Shown, shown_of, shown_path, ShowsFile, slice_get, slice_index_or, Some, some_from, some_has, sort_by-map, sorted_is-sort_by, StandOnce, State, subst, subst₂, sym, Tables, tables_of, take, Term, Text, then-Equal, tied_itself, true, typed_at, unclashed, Unique, unwrap_or, value_cmp, value_cmp-Text, value_cmp_total, Values, with_content, with_file, with_rowid, without_unused, ◌||◌, ℕ, ℤ, ◌∙◌, ◌∷◌, ◌≡◌, ◌⊎◌}
unfoldable pub use Rattle.office_contents.proofs.Common.{binary, everything, first_key, IsDistinct, joined, same_name, understood}
pub use Rattle.office_contents.proofs.Frames.{becomes, contents_after, file_rows_after, idle, references_after, with_edit}
pub use Rattle.office_contents.proofs.LastRow.{AsksLast, reads_last}
pub use Rattle.office_contents.proofs.RowsRead.{reads_numbered}
pub use Rattle.office_contents.proofs.TablePlaces.{of_contents, of_files}
