-- The names that several proofs of this crate cite, passed on from one place. Declares nothing.
pub use Rattle.office_rows.specs.Matching.{Attempt, counts_on, fits_attempt, fits_name, matching_rule}
pub use Rattle.office_rows.specs.Rows.{AreInOrder, beside, bytes_under, caller_named, CallerRow, class_named, ClassRow, content_numbered, ContentRow, deposit_by, deposit_numbered, DepositRow, due_numbered, DueRow, empty_office, file_at, FileRow, files_of, has_accession, has_class, has_collection, hold_numbered, HoldRow, holds_class, holds_collection, holds_deposit, is_by, is_caller, is_class, is_collection, is_content, is_deposit, is_disposable, is_due_between, is_due_of, is_file_at, is_file_of, is_hold, is_known, is_live, is_live_of_class, is_live_on, is_live_over, is_live_within, is_of_class, is_office_row, is_within, new_due_row, last_number, least_number, limits_in, limits_of, live_holds, more_holds, NumbersRise, of_class, OfficeRow, put_by, RuleRow, Tables, this_version, version_of, with_caller, with_callers, with_class, with_due, with_dues, with_gone, with_hold, with_holds, with_deposit_and_due, with_more_holds, with_more_holds_class, with_new_class, with_new_collection, with_policy, with_released, with_rule, with_rules, with_years, without_callers, without_rules}
pub use Rattle.office_contents.specs.Calls.{GoesOnInside, GoesOnInTurn, Writes}
pub use Rattle.office_contents.specs.Contents.{AreContents, AreStoredOnce, content_at, content_referred, DiffersInBytes, HasSameContents, is_intact, IsMarked, StoresOnce, LeavesContents, references_of, without_bytes}
pub use Rattle.office_tables.specs.Deposits.{added_row, IsAdded, shown_deposit}
pub use Rattle.office_contents.specs.Faults.{IsFailure}
pub use Rattle.office_tables.specs.Moving.{all_in_version, AllRows, BecomesAt, in_version, moved_hold, moved_rule, renewed, rows_at}
pub use Rattle.office_tables.specs.Opening.{has_office, is_limit_told, is_one, IsKnownAsOther, IsLeft, IsMade, IsMadeLeft, HasSameTables, known_row, look_text, Looks, shows_office, ShowsVersion}
pub use Rattle.office_contents.specs.Schema.{caller_table, caller_tree, class_table, class_tree, collection_table, collection_tree, content_table, deposit_place, deposit_table, deposit_tree, file_table, file_tree, hold_4_table, hold_table, hold_tree, no_schema, office_schema, office_table, office_tree, old_hold_tree, old_rule_tree, plain_index, rule_5_table, rule_table, rule_tree, stage}
pub use Rattle.office_tables.specs.ShownPolicy.{shown_rule}
pub use Rattle.office_contents.specs.Tables.{Becomes, caller_in, class_in, collection_in, content_in, contents_of, deposit_in, due_in, file_in, hold_in, IsOffice, office_in, rule_in, shown_limits, tables_of}
pub use Rattle.office_contents.specs.Versions.{emptied_at, first_day, IsOfficeAt, last_day, Newest, old_hold_in, old_rule_in, schema_at, tables_at, version_number}
pub use Rattle.office_contents.specs.declared.fault.TableFault.{TableFault}
pub use Rattle.office_contents.specs.declared.version.TableVersion.{TableVersion}
pub use Rattle.office_contents.specs.declared.version.TableVersion.TheVariants.{Fifth, Fourth, Third}
pub use Rattle.sha2.specs.Sha256.{sha256}
pub use Rattle.sql_meaning.proofs.Changing.{drops, revises}
pub use Rattle.sql_meaning.proofs.Edits.{any_mapped, appended, cast_int, cast_null, counted, decoded, inserted, map_alike, none_revised}
pub use Rattle.sql_meaning.proofs.Inserts.{apart, IsApart, none_before, put, was_put}
pub use Rattle.sql_meaning.proofs.Keys.{bytes_itself, found_by, int_itself, lone, none_pass, same_int, same_text}
pub use Rattle.sql_meaning.proofs.Limited.{AsksSome, reads_some}
pub use Rattle.sql_meaning.proofs.Reading.{Asks, finds_any, finds_part, reads_rising, reads_same}
pub use Rattle.sql_meaning.proofs.Results.{on_ok}
pub use Rattle.sql_meaning.proofs.RowidKeys.{by_number, each_numbered, few_numbered, has_number, one_numbered, rising}
pub use Rattle.sql_meaning.proofs.Scanning.{answer_complete, answer_sound, answers_rising, as_program, finds_one, noting, passes, scan, scanned, Scans, shown_of, shown_same}
pub use Rattle.sql_meaning.proofs.TextKeys.{any_parent, by_text, each_passes, few_named, has_text, IsText, one_named}
pub use Rattle.sql_meaning.proofs.Typed.{all_both, typed_at}
pub use Rattle.sql_meaning.proofs.Whole.{blank_shaped, obeys_rule, rows_after, sets, with_rows}
pub use Rattle.sql_meaning.proofs.Writing.{Changes, deletes, inserts, IsIdle, Means, updates}
pub use Rattle.sql_meaning.specs.Columns.{bytes_at, int_at, maybe_bytes, maybe_bytes_at, maybe_int, maybe_int_at}
pub use Rattle.sql_meaning.specs.Growing.{Grows}
pub use Rattle.sql_meaning.specs.Making.{Builds}
pub use Rattle.sql_meaning.specs.Whole.{AreShaped, IsBlank, IsWhole, Sets}
pub use Rattle.sqlite.proofs.Callers.{command_of, IsPlain, reads_as, statement_of}
pub use Rattle.sqlite.specs.Cast.{cast, cast_row}
pub use Rattle.sqlite.specs.Collation.{Collation}
pub use Rattle.sqlite.specs.Collation.TheVariants.{Binary}
pub use Rattle.sqlite.specs.Command.{Command}
pub use Rattle.sqlite.specs.Command.TheVariants.{CreateIndex, CreateTable, Delete, Insert, Select, Update}
pub use Rattle.sqlite.specs.Edit.{edit_of, edited, id_in, with_rowid}
pub use Rattle.sqlite.specs.Effect.{Database, IsDatabase, Reads}
pub use Rattle.sqlite.specs.Held.{Held, state}
pub use Rattle.sqlite.specs.Listing.{if_select, is_select, IsSourceOf, listing_schema, reads_listing}
unfoldable pub use Rattle.sqlite.specs.Listing.{understood}
pub use Rattle.sqlite.specs.Ops.{fits_i64, from_truth, int_or, is_true, not3, or3, real, truth}
unfoldable pub use Rattle.sqlite.specs.Ops.{binary, unary}
pub use Rattle.sqlite.specs.Order.{bytes, column, Row, value_cmp}
pub use Rattle.sqlite.specs.Query.{IsSureAnswer, Output, output, output_cmp, Query}
pub use Rattle.sqlite.specs.Rowids.TheVariants.{Chosen, Given}
pub use Rattle.sqlite.specs.Schema.{Schema}
pub use Rattle.sqlite.specs.Source.TheVariants.{Values}
pub use Rattle.sqlite.specs.State.{Executes, HasCleanDisk, IsLive, IsUnchanged, State}
unfoldable pub use Rattle.sqlite.specs.State.{Shown}
pub use Rattle.sqlite.specs.Store.{Ghosts}
pub use Rattle.sqlite.specs.Table.{Table}
pub use Rattle.sqlite.specs.Term.{case, col, eval, lit, op1, op2, Term}
pub use Rattle.sqlite.specs.Tree.{IsAscending, put_row, rowid, Trees}
pub use Rattle.sqlite.specs.Values.{bound_value, or_null}
pub use Rattle.sqlite.specs.declared.types.Value.{Value}
pub use Rattle.sqlite.specs.declared.types.Value.TheVariants.{Int, Null, Real, Text}
pub use Rattle.sqlite_exec.proofs.RowsLemmas.{IsSorted-map}
pub use Rattle.sqlite_keyed.proofs.ListLemmas.{ascending-filter, ascending-map, ascending_weaker, filter-map, first_taken, map-map}
pub use Rattle.sqlite_keyed.proofs.SortLemmas.{sorted_unique}
pub use Rattle.sqlite_rules.proofs.ListLemmas.{all_from, all_has, has_filtered, has_found, has_kept}
pub use Rattle.sqlite_rules.proofs.ProbeLemmas.{has_mapped, mapped_has}
pub use Rattle.sqlite_rules.proofs.TableLemmas.{int_is}
pub use Rattle.sqlite_rules.specs.Calls.{ids_of}
pub use Rattle.sqlite_rules.specs.Lists.{Has}
unfoldable pub use Rattle.sqlite_schema.specs.Names.{same_name}
pub use Rattle.sqlite_schema.specs.Rules.{agree}
pub use Rattle.sqlite_schema.specs.declared.schema.Constraint.TheVariants.{Datatype, ForeignKey, NotNull, Unique}
pub use Rattle.sqlite_schema.specs.declared.schema.Index.{Index}
pub use Rattle.sqlite_schema.specs.declared.schema.Keys.TheVariants.{Enforced}
pub use Rattle.sqlite_sql.specs.Program.{overlay}
pub use Rattle.sqlite_sql.specs.declared.ops.ArithOp.TheVariants.{Add}
pub use Rattle.sqlite_sql.specs.declared.ops.BinaryOp.TheVariants.{Arith, Compare, Is, Or}
pub use Rattle.sqlite_sql.specs.declared.ops.CompareOp.TheVariants.{Eq, Ge, Gt, Le, Lt}
pub use Rattle.sqlite_sql.specs.declared.ops.UnaryOp.TheVariants.{Not, TypeOf}
unfoldable pub use Rattle.sqlite_tied.specs.Compute.{everything}
pub use Rattle.sqlite_trees.specs.View.{is_int, IsShaped}
pub use Rattle.sqlite_value.proofs.OrderLemmas.{value_cmp-apart, value_cmp-Int, value_cmp-Null, value_cmp-Text}
pub use Rattle.sqlite_value.specs.Keys.{plain}
unfoldable pub use Rattle.sqlite_value.specs.Keys.{joined}
pub use Rattle.sqlite_value.specs.declared.keys.Key.{Key}
pub use Rattle.std.proofs.Common.{◌&&◌, ◌+◌, ◌++◌, ◌+ℤ◌, ◌<◌, ◌==◌, [], ap, append-nil, append_assoc, ap₂, arith, Bool, Bor, bytes_eq, codes, cond, drop, Equal, Err, false, filter, find, Float, Greater, if◌then◌else◌, inl, inr, int_cmp, int_eq, is_eq, is_ge, is_gt, is_le, is_lt, is_nan, is_some, IsPermutation, IsSorted, IsTrue, length, Less, List, map, MatchOption, MutBor, nat_cmp, negsuc, None, not, Ok, Option, option_map, Ordering, pos, refl, rules, slice_get, slice_index_or, Some, string_bytes, subst, subst₂, sym, take, true, true≢false, unwrap_or, vec_len, w64, ◌||◌, ℕ, ℤ, ◌∙◌, ◌∷◌, ◌≡◌, ◌≢◌, ◌≤ℤ◌, ◌⊎◌}
pub use Rattle.std.proofs.Math.Bool.{and-true}
pub use Rattle.std.proofs.lemmas.Bool.{and_parts, cases_Bool}
pub use Rattle.std.proofs.lemmas.Bool.Decides.{nat_tests}
pub use Rattle.std.proofs.lemmas.Cmp.{int_cmp_total}
pub use Rattle.std.proofs.lemmas.Int.{ints, to_z-of_z}
pub use Rattle.std.proofs.lemmas.List.{at_drop_all, at_drop_more, map-append}
pub use Rattle.std.proofs.lemmas.List.Sorted.{IsPermutation-append_left, IsPermutation-cons, IsPermutation-map, IsPermutation-middle, IsPermutation-refl, IsPermutation-sym, IsPermutation-trans}
pub use Rattle.std.proofs.lemmas.Map.Text.{is_eq-slice_cmp}
pub use Rattle.std.proofs.lemmas.Option.{same_Some}
pub use Rattle.std.proofs.lemmas.Result.{IfOk-weaker, on_ok_weaker}
pub use Rattle.std.proofs.lemmas.Slice.Eq.{bytes_eq-Decides}
pub use Rattle.std.specs.List.{AllByRecursion, list_any}
unfoldable pub use Rattle.std.specs.List.{IsDistinct}
