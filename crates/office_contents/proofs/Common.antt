-- The names that several proofs of this crate cite, passed on from one place. Declares nothing.
pub use Rattle.office_rows.specs.Rows.{bytes_under, content_numbered, ContentRow, file_at, FileRow, is_alike, is_content, is_file_at, is_file_of, last_number, next_id, Tables, with_content, with_file}
pub use Rattle.office_contents.specs.Calls.{Continues, ContinuesInTurn, GoesOnInside, GoesOnInTurn, Keeps}
pub use Rattle.office_contents.specs.Contents.{AreFilesDropped, AreStoredOnce, AreUsed, AreUsedOr, content_after, content_at, content_number, content_referred, contents_without, Does, HasSameContents, is_among, is_intact, IsContentAdded, IsContentStored, IsFileAdded, IsMarked, IsMarkedPut, IsNewContent, IsTidied, HasSameFiles, StoresOnce, number_alike, references_of, references_where, references_within, references_without, ShowsFile, StandOnce, without_unused}
pub use Rattle.office_contents.specs.Files.{files_by_path, path_cmp, shown_path}
pub use Rattle.office_contents.specs.Faults.{IsFailure}
pub use Rattle.office_contents.specs.Schema.{all_tables, content_table, content_tree, emptied_trees, file_table, file_tree, office_schema}
pub use Rattle.office_contents.specs.Tables.{Becomes, content_in, contents_of, file_in, IsOffice, tables_of}
pub use Rattle.office_contents.specs.declared.fault.TableFault.{TableFault}
pub use Rattle.sha2.specs.Sha256.{sha256}
pub use Rattle.sql_meaning.proofs.Changing.{drops}
pub use Rattle.sql_meaning.proofs.Edits.{appended, cast_int, cast_null, map_alike}
pub use Rattle.sql_meaning.proofs.Inserts.{none_before}
pub use Rattle.sql_meaning.proofs.Inside.{goes_executed, goes_shown, is_inside, stays_failed, stays_on, stays_shown}
pub use Rattle.sql_meaning.proofs.Keys.{bytes_itself, found_by, int_itself, lone, same_blob, same_int, same_key, same_text, unclashed}
pub use Rattle.sql_meaning.proofs.Limited.{AsksSome, reads_some}
pub use Rattle.sql_meaning.proofs.Reading.{Asks, finds_part, reads_one, reads_rising, reads_same, reads_scan}
pub use Rattle.sql_meaning.proofs.RowidKeys.{by_number, each_numbered, few_numbered, has_number, one_numbered, rising}
pub use Rattle.sql_meaning.proofs.Scanning.{answer_complete, answer_sound, as_program, passes, scan, scanned, shown_of, shown_same}
pub use Rattle.sql_meaning.proofs.TextKeys.{by_text, each_passes, has_text, IsText}
pub use Rattle.sql_meaning.proofs.Typed.{all_both, typed_at}
pub use Rattle.sql_meaning.proofs.Whole.{obeys_rule, rows_after, whole_after, with_rows}
pub use Rattle.sql_meaning.proofs.Writing.{Changes, inserts, IsIdle, Means}
pub use Rattle.sql_meaning.specs.Columns.{bytes_at, int_at}
pub use Rattle.sql_meaning.specs.Whole.{AreShaped}
pub use Rattle.sqlite.proofs.Callers.{command_of, IsPlain, reads_as}
pub use Rattle.sqlite.specs.Cast.{cast_row}
pub use Rattle.sqlite.specs.Collation.TheVariants.{Binary}
pub use Rattle.sqlite.specs.Command.TheVariants.{Delete, Insert, Select}
pub use Rattle.sqlite.specs.Edit.{Edit, edit_of, edited, id_in, next_rowid, with_rowid}
pub use Rattle.sqlite.specs.Effect.{Database}
pub use Rattle.sqlite.specs.Held.{Held, state}
pub use Rattle.sqlite.specs.Listing.{reads_listing}
unfoldable pub use Rattle.sqlite.specs.Listing.{understood}
pub use Rattle.sqlite.specs.Ops.{is_null, is_true}
unfoldable pub use Rattle.sqlite.specs.Ops.{binary}
pub use Rattle.sqlite.specs.Order.{bytes, column, Row, value_cmp}
pub use Rattle.sqlite.specs.Query.{IsSureAnswer, Output, output, output_cmp, Query}
pub use Rattle.sqlite.specs.Rowids.TheVariants.{Chosen, Given}
pub use Rattle.sqlite.specs.Schema.{Schema}
pub use Rattle.sqlite.specs.Source.TheVariants.{Values}
pub use Rattle.sqlite.specs.State.{Executes, HasCleanDisk, State}
unfoldable pub use Rattle.sqlite.specs.State.{Shown}
pub use Rattle.sqlite.specs.Store.{Ghosts}
pub use Rattle.sqlite.specs.Table.{Table}
pub use Rattle.sqlite.specs.Term.{col, lit, op2, Term}
pub use Rattle.sqlite.specs.Tree.{IsAscending, IsTable, rowid, Trees}
pub use Rattle.sqlite.specs.declared.types.Value.TheVariants.{Blob, Int, Null, Text}
pub use Rattle.sqlite_catalog.proofs.ListFacts.{filter_all}
pub use Rattle.sqlite_exec.proofs.RowsLemmas.{IsSorted-map}
pub use Rattle.sqlite_keyed.proofs.ListLemmas.{all-append, all_map, ascending-append, ascending-filter, ascending-map, ascending_weaker, filter-map, first_taken, list_all_push, map-map, none_from_any}
pub use Rattle.sqlite_keyed.proofs.SortLemmas.{IsPermutation-sort_by, sort_by-map, sorted_is-sort_by, sorted_unique}
pub use Rattle.sqlite_rules.proofs.ListLemmas.{all_from, all_has, has_filtered, has_found, has_kept, some_from, some_has}
pub use Rattle.sqlite_rules.proofs.ProbeLemmas.{has_mapped, mapped_has}
pub use Rattle.sqlite_rules.proofs.TableLemmas.{int_is}
pub use Rattle.sqlite_rules.specs.Calls.{ids_of}
pub use Rattle.sqlite_rules.specs.Lists.{Has}
unfoldable pub use Rattle.sqlite_schema.specs.Names.{same_name}
pub use Rattle.sqlite_schema.specs.Rules.{agree, equal, has_null}
pub use Rattle.sqlite_schema.specs.declared.schema.Constraint.TheVariants.{Datatype, ForeignKey, NotNull, Unique}
pub use Rattle.sqlite_schema.specs.declared.schema.Keys.TheVariants.{Enforced}
pub use Rattle.sqlite_sql.specs.Program.{overlay}
pub use Rattle.sqlite_sql.specs.declared.ops.BinaryOp.TheVariants.{Compare}
pub use Rattle.sqlite_sql.specs.declared.ops.CompareOp.TheVariants.{Eq}
unfoldable pub use Rattle.sqlite_tied.specs.Compute.{everything}
pub use Rattle.sqlite_trees.proofs.ListLemmas.{all-permutation, filter_same}
pub use Rattle.sqlite_trees.specs.View.{IsShaped}
pub use Rattle.sqlite_value.proofs.OrderLemmas.{then-Equal, value_cmp-Text, value_cmp_total}
pub use Rattle.sqlite_value.specs.Keys.{plain}
unfoldable pub use Rattle.sqlite_value.specs.Keys.{first_key, joined}
pub use Rattle.sqlite_value.specs.declared.keys.Key.{Key}
pub use Rattle.std.proofs.Common.{◌&&◌, ◌+◌, ◌++◌, ◌+ℤ◌, ◌<◌, ◌==◌, [], ap, ap₂, arith, Bool, bytes_eq, codes, drop, Equal, Err, false, filter, find, fold, if◌then◌else◌, inl, inr, int_eq, is_eq, is_lt, IsPermutation, IsSorted, length, Less, List, map, MutBor, nat_cmp, None, not, Ok, Option, option_map, Ordering, pos, refl, rules, slice_get, slice_index_or, Some, string_bytes, subst, subst₂, suc, sym, take, true, unwrap_or, vec_len, w64, zero, ◌||◌, ℕ, ℤ, ◌∙◌, ◌∷◌, ◌≡◌, ◌⊎◌}
pub use Rattle.std.proofs.Math.Bool.{and-true}
pub use Rattle.std.proofs.lemmas.Bool.{and_parts, cases_Bool, or_parts}
pub use Rattle.std.proofs.lemmas.Bool.Decides.{nat_tests}
pub use Rattle.std.proofs.lemmas.Cmp.{tied_itself}
pub use Rattle.std.proofs.lemmas.Int.{to_z-of_z}
pub use Rattle.std.proofs.lemmas.List.{at_drop_more, map-append, map_more, map_push, take_all}
pub use Rattle.std.proofs.lemmas.List.Elements.{All-from_recursion, recursion_from_All}
pub use Rattle.std.proofs.lemmas.List.Sorted.{All-permutation, IsPermutation-append_comm, IsPermutation-cons, IsPermutation-map, IsPermutation-refl, IsPermutation-sym, IsPermutation-trans}
pub use Rattle.std.proofs.lemmas.Map.Text.{is_eq-slice_cmp}
pub use Rattle.std.proofs.lemmas.Option.{same_Some}
pub use Rattle.std.proofs.lemmas.Result.{IfOk-weaker, on_ok_weaker}
pub use Rattle.std.proofs.lemmas.Slice.Eq.{bytes_eq-Decides}
pub use Rattle.std.specs.List.{AllByRecursion, list_all, list_any}
unfoldable pub use Rattle.std.specs.List.{IsDistinct}
