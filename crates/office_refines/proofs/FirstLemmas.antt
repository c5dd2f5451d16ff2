-- The lemmas of this crate on which several others rest, passed on from one place. Declares nothing.
pub use Rattle.office_refines.proofs.ComesTo.{action_known, effect_is, on_days, role_is, rule_is}
pub use Rattle.office_refines.proofs.Common.{◌&&◌, ◌*◌, ◌+◌, ◌++◌, ◌+ℤ◌, ◌<◌, ◌==◌, ◌>>=◌, [], accession_of, Action, action_of, action_pattern_text, action_text, add-one, all_distinct, all_have_years, all_numbered, all_told, AllByRecursion, allowed_answer, allowed_change, allowed_of, allowed_rows, among_first_places, and_parts, Answer, answer_if, ap, append-nil, append_assoc, ap₂, are_released_on_days, AreInRange, AreNumbered, arith, Ascends, Audit, audit_of, audit_unless, bag_in, bag_of, beside, between, Bool, bytes_eq, bytes_eq-Decides, caller_named, caller_row, CallerRow, Change, changes_unless, class_in, class_named, class_row, class_rows, ClassRow, closing_of, codes, collection_in, collection_rows, collections, cond, cons_option, contains_has, content_at, content_stored, count_in, count_up_to, counted_hold_in, counted_on, counted_over, counted_read, covers, Date, day_back, day_numbered, Days, days_back, days_of, days_read, Decides-eqb, Decides-int_eq, deciding_rule, deciding_rule_at, decision_by, decision_for, decision_is, DefineClass, DefineCollection, DefinedClass, DefinedCollection, denial, denial_at, denial_in, denial_verdict, Deposit, deposit_change, deposit_numbered, deposit_row, deposit_rows, depositable, Deposited, DepositRecord, DepositRow, deposits, description_of, Destroyed, destruction_day, different, disposable, disposal_facts, disposal_refusal, disposal_refusals, Dispose, DownloadBag, DownloadFile, due, due_back, due_in, due_list, due_number, due_numbered, due_of, due_of_number, disposable_rows, due_row, due_rows, DueList, DueRow, effect_number, epoch_day, facts_of, facts_told, false, File, file_answer, file_in, file_row, file_rows, FileRow, files_of, filter, filter-append, filter_map, filter_map-append, find, first_said, first_some, first_told, Fits, fits_attempt, fits_name, flat_map, Full, full_after, full_of_deposits, full_of_holds, Gone, gone_grown, gone_refusal, gone_verdict, grown_by_none, Has, has_class, has_collection, has_names, HasBagOf, HasNames, HasTarget, HasYears, held_class, held_collection, held_deposit, held_refusal, highest_deposit, highest_hold, History, Hold, hold_by, hold_numbered, hold_refusals, hold_row, HoldClass, HoldCollection, HoldDeposit, HoldRow, Holds, holds, holds_in, if_any, if_bag, IfSome, if◌then◌else◌, in_first_places, inl, inr, insert_sorted, Installed, int_cmp, int_eq, int_le, int_lt, ints, is_allowed_for, is_selected, is_between, is_by, is_caller, is_class, is_deposit, is_disposable, is_due_of, is_file_of, is_ge, is_good, is_gt, is_le, is_live, is_lt, is_name, is_none, is_of_class, is_shown_unless, is_some, is_within, IsBag, IsBetween, IsCallerRow, IsClassRow, IsDayNumber, IsDeposited, IsDepositRow, IsDueRow, IsEpochDay, IsHoldRow, IsLegal, IsName, IsNamed, IsPlaceable, IsPolicy, IsReleasable, IsRuleRow, IsSome, IsSound, IsThere, item_numbered, LeavesDeposits, one_deposit, one_hold, same_deposits, same_holds, stored_as, kept_refusals, last_said, least_hold, least_number, least_read, legal_policy, length, length-map, length_push, Less, limits_hold, List, list_any, listed_record, listed_records, live_hold, live_holds, map, map_back, matching_rule, max_content, max_files, max_years, more_holds, nat_cmp, nat_le, neg_ℤ, negsuc, Never, new_deposit, new_hold, no_such_class, no_such_collection, NoFile, None, none_gone, NoSuch, not, not_due_refusal, not_star, number_after, numbers, of_deposit, of_hold, office_row, OfficeRow, On, OnClass, OnCollection, OnDeposit, Option, option_and_then, option_map, option_map_or, option_or, or_empty, or_none, or_stranger, path_cmp, pattern_text, picture, place_and_effect, disposable_row, disposable_told, placed, placed_holds, PlacedHold, DisposableRow, PlacesRise, policy, policy_grown, PolicyValue, pos, put_by, put_last, range_with_len, ranged_deposits, reaches, Record, record_by, record_in, record_of, refl, Refusal, refusal, refusal_before, refusal_in, refusal_of, refusals, refusals_before_the_bag, refusals_of_the_bag, releasable, Release, release_day, release_denial, release_denial_on, Released, released, released_refusal, ReleasedHold, report_on, Request, Result, role_in, role_of, row_by_gone, row_years, rows_by, Rule, rule_and_effect, rule_row, rule_rows, RuleRow, same_Some, scope_of, set_text, signed_arith, slice_get, slice_get_last, slice_get_within, Some, sort_by, sorted_already, stored_files, subst, suc, sym, Tables, taken_refusal, Target, target_named, target_of, things_told, this_version, told_hold, told_holds, told_if, told_of, true, true≢false, verdict_of, Visit, Wanted, with_changes, with_class, with_collection, with_due, with_due_days, with_files, with_gone, with_hold, with_holds, with_deposit_and_due, with_new_class, with_new_collection, with_policy, with_released, with_years, without_files, years_back, years_in, years_number, years_of, years_of_number, years_read, zero, ◌||◌, ℕ, ℤ, ◌∙◌, ◌∷◌, ◌≡◌, ◌≤◌, ◌≤ℤ◌, by_Bool, by_Option, false_from_ne_true, none_of, not_gone, was_placed, few_live, own, files_told}
pub use Rattle.office_refines.proofs.DepositsTold.{accession_told, both, deposit_rows_are, deposit_told, due_rows_are, due_told, rows_beside}
pub use Rattle.office_refines.proofs.FirstPlaces.{first_places_last}
pub use Rattle.office_refines.proofs.HoldsTold.{hold_rows_are, live_same, live_told, not_yet, placed_told, released_then, released_told}
pub use Rattle.office_refines.proofs.NumberedRows.{alike, another, below, bytes_eq-sym, eqb-sym, found_at, is_less, is_nil, item_front, itself, last_is, mark, none_next, numbers_passing, PassAlike, range_last, rows_append, rows_changed, rows_from, same_count, same_number}
pub use Rattle.office_refines.proofs.Unchanged.{pictured_by, same_classes, same_collection_rows, same_deposit_rows, same_due, same_due_row, same_due_rows, same_file_rows, same_gone, same_hold_rows, same_live, same_released, years_grown}
