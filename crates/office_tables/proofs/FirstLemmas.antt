-- The lemmas of this crate on which several others rest, passed on from one place. Declares nothing.
pub use Rattle.office_tables.proofs.ClassTexts.{add_class_text, add_collection_text, class_meanings, find_text, revise_text, revised_columns, years_text}
pub use Rattle.office_contents.proofs.Columns.{all_given, only}
pub use Rattle.office_tables.proofs.Common.{◌&&◌, ◌+◌, ◌++◌, ◌+ℤ◌, ◌<◌, ◌==◌, [], Add, agree, all_both, all_from, all_has, all_in_version, AllByRecursion, AllRows, and-true, and_parts, answer_complete, answer_sound, answers_rising, any_mapped, any_parent, ap, append-nil, append_assoc, appended, ap₂, AreInOrder, AreStoredOnce, Arith, arith, as_program, ascending-filter, ascending-map, ascending_weaker, Asks, AsksSome, at_drop_more, Attempt, Becomes, BecomesAt, beside, Binary, blank_shaped, Bool, Bor, bound_value, by_number, by_text, bytes, bytes_at, bytes_eq, bytes_itself, caller_in, caller_named, caller_table, caller_tree, CallerRow, case, cases_Bool, cast, cast_int, cast_null, cast_row, Changes, Chosen, class_in, class_named, class_table, class_tree, ClassRow, codes, col, collection_in, collection_table, collection_tree, column, command_of, Compare, content_in, counted, counts_on, Database, Datatype, decoded, Delete, deletes, deposit_by, deposit_in, deposit_numbered, deposit_place, deposit_table, deposit_tree, DepositRow, drop, drops, due_in, due_numbered, DueRow, each_numbered, each_passes, edit_of, edited, empty_office, Enforced, Eq, Equal, eval, Executes, false, few_named, few_numbered, Fifth, filter, filter-map, find, finds_any, finds_one, finds_part, first_day, first_taken, fits_attempt, fits_i64, fits_name, Float, ForeignKey, found_by, Fourth, from_truth, Ge, Ghosts, Given, GoesOnInside, GoesOnInTurn, Grows, Gt, Has, has_accession, has_class, has_collection, has_filtered, has_kept, has_number, has_office, has_text, HasCleanDisk, HasSameContents, Held, hold_4_table, hold_in, hold_numbered, hold_table, hold_tree, HoldRow, holds_class, holds_collection, holds_deposit, id_in, ids_of, if◌then◌else◌, in_version, Index, inl, inr, Insert, inserted, inserts, Int, int_at, int_cmp, int_cmp_total, int_eq, int_is, int_itself, int_or, ints, Is, is_by, is_caller, is_class, is_collection, is_deposit, is_disposable, is_due_between, is_due_of, is_eq, is_eq-slice_cmp, is_ge, is_gt, is_hold, is_int, is_known, is_le, is_limit_told, is_live, is_live_of_class, is_live_on, is_live_over, is_live_within, is_lt, is_nan, is_of_class, is_office_row, is_one, is_true, is_within, IsAdded, IsAscending, IsBlank, IsMade, IsMadeLeft, IsOffice, IsPermutation, IsPermutation-append_left, IsPermutation-cons, IsPermutation-map, IsPermutation-middle, IsPermutation-refl, IsPermutation-sym, IsPermutation-trans, IsPlain, IsShaped, IsSorted, IsSorted-map, IsSourceOf, IsSureAnswer, IsText, IsTrue, IsWhole, Newest, noting, obeys_rule, StoresOnce, new_due_row, Key, last_day, last_number, Le, least_number, LeavesContents, length, Less, limits_in, limits_of, List, list_any, lit, live_holds, lone, look_text, Looks, Lt, map, map-append, map-map, map_alike, mapped_has, matching_rule, maybe_bytes, maybe_bytes_at, maybe_int, Means, more_holds, moved_hold, moved_rule, MutBor, nat_cmp, nat_tests, negsuc, None, none_before, none_pass, none_revised, Not, not, not3, NotNull, Null, NumbersRise, of_class, office_in, office_schema, office_table, office_tree, OfficeRow, Ok, old_hold_in, old_hold_tree, old_rule_in, old_rule_tree, one_named, one_numbered, op1, op2, Option, option_map, Or, or3, or_null, Output, output, output_cmp, overlay, passes, plain, pos, put, put_by, put_row, Query, Reads, reads_as, reads_listing, reads_rising, reads_same, reads_some, Real, real, refl, revises, rising, Row, rowid, rows_after, rows_at, rule_5_table, rule_in, rule_table, rule_tree, RuleRow, same_int, same_Some, same_text, scan, scanned, Scans, Schema, schema_at, Select, Sets, sets, Shown, shown_deposit, shown_limits, shown_of, shown_rule, shown_same, shows_office, ShowsVersion, slice_get, slice_index_or, Some, sorted_unique, State, state, subst, subst₂, sym, Table, TableFault, Tables, tables_at, tables_of, TableVersion, take, Term, Text, Third, Trees, true, truth, typed_at, TypeOf, Unique, unwrap_or, Update, updates, Value, value_cmp, value_cmp-apart, value_cmp-Int, value_cmp-Text, Values, version_of, was_put, with_caller, with_callers, with_class, with_due, with_dues, with_gone, with_hold, with_holds, with_deposit_and_due, with_more_holds, with_more_holds_class, with_new_class, with_new_collection, with_policy, with_released, with_rowid, with_rows, with_rule, with_rules, with_years, without_callers, without_rules, Writes, ◌||◌, ℕ, ℤ, ◌∙◌, ◌∷◌, ◌≡◌, ◌≢◌, ◌≤ℤ◌, ◌⊎◌}
unfoldable pub use Rattle.office_tables.proofs.Common.{binary, everything, IsDistinct, joined, same_name, unary, understood}
pub use Rattle.office_tables.proofs.DepositTexts.{accession_text, deposit_columns, deposit_meanings, deposit_text, deposit_with, deposits_text, gone_text, last_text, put_terms, put_text, put_width}
pub use Rattle.office_contents.proofs.Frames.{adding, becomes, becomes_shaped, idle, idle_at, of_emptied, same_contents, same_after, still_empty, stored_once}
pub use Rattle.office_tables.proofs.InOrder.{IsNumbered, placed, same_order}
pub use Rattle.office_contents.proofs.LastRow.{AsksLast, reads_last}
pub use Rattle.office_tables.proofs.MaybeEmpty.{cast_maybe, keeps_int, keeps_text, maybe_back, null_is}
pub use Rattle.office_tables.proofs.PolicyTexts.{add_caller_text, add_rule_text, drop_callers_text, drop_rules_text, policy_meanings, role_text, rule_columns, rule_terms, rules_text}
pub use Rattle.office_contents.proofs.RowsRead.{finds_named, lists_all, reads_named, reads_numbered}
pub use Rattle.office_contents.proofs.TablePlaces.{of_callers, of_classes, of_collections, of_contents, of_deposits, of_files, of_first_deposits, of_holds, of_office, of_old_holds, of_old_rules, of_rules}
pub use Rattle.office_tables.proofs.TakenOver.{eight, empties, others_kept, rows_taken, starts_empty, takes_over}
