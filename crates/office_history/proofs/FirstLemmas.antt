-- The lemmas of this crate on which several others rest, passed on from one place. Declares nothing.
pub use Rattle.office_history.proofs.Accepted.{depositable, deposits_by, disposable, grown_by_none, holds_by, IsAccepted, legal_by, releasable}
pub use Rattle.office_history.proofs.Alike.{Alike, alike_grown, gone_grown, last_said-append, mapped_of_kept, or_none, Outline, outline, policy_grown, released_grown, same_count, same_found, same_kept, same_outline, some_behind}
pub use Rattle.office_history.proofs.Common.{◌&&◌, ◌+◌, ◌++◌, ◌<◌, ◌<ℤ◌, ◌==◌, [], accession_of, Action, action_pattern_text, ActionPattern, after, all_append, all_weaker, AllByRecursion, Allow, allowed_answer, allowed_change, allows, and-true, and_parts, Answer, answer, answer_if, answer_unless, any_has, ap, append-nil, append_assoc, AreItems, arith, as_of, Audit, audit_report, bad_bag, bag_of, Bool, Bor, bytes_eq, bytes_eq-Decides, Caller, caller_row, CallerRow, Change, change, changes_unless, class_in, class_row, class_rows, ClassRow, closed_ahead_refusal, codes, collection_in, collection_rows, collections, cond, cond_some, cons_option, Contains, contains_has, content_at, contents, covers, Date, day_number, Decides-eqb, Decides-int_eq, Decision, decision_of, DefineClass, DefineCollection, DefinedClass, DefinedCollection, denial, denial_at, Deny, Deposit, deposit_change, deposit_numbered, deposit_row, deposit_rows, DepositRow, deposits, Description, description_of, Destroyed, destroyed_in, destruction_day, disposal_refusals, Dispose, distinct_after, DownloadBag, DownloadFile, Due, due, due_list, due_number, due_of, due_row, due_rows, due_verdict, DueList, DueRow, Effect, effect_number, epoch_day, epoch_day-lt, epoch_day_injective, epoch_day_range, Err, false, File, file_answer, file_row, file_rows, FileRow, files_of, filter, filter_has, filter_map, filter_map-append, first_said, first_some, first_year, Fits, flat_map, Full, full_of_holds, Gone, gone_refusal, gone_verdict, Has, has_accession, has_class, has_collection, has_contains, has_filter, has_map, HasDays, HasNames, Held, held_class, held_collection, held_deposit, held_refusal, History, Hold, hold_numbered, hold_row, hold_verdict, HoldClass, HoldCollection, HoldDeposit, HoldRow, Holds, holds, if_valid, IfSome, if◌then◌else◌, in_first_places, inl, inr, Installed, installed_in, int_lt, is_selected, is_live, is_name, is_none, is_nothing, is_some, IsAllowed, IsBag, IsBetween, IsChange, IsDay, IsDayNumber, IsDescription, IsDisposable, IsFailure, IsHold, IsItem, IsKept, IsLater, IsLegal, IsName, IsNamed, IsNamedCaller, IsPolicy, IsSound, IsThere, IsWithin, IsYears, IsYearsAfter, Item, item_numbered, kept_numbers, last_said, last_year, least_hold, length, length-append, length-map, List, list_any, listed_record, listed_records, live_hold, live_holds, map, map_has, nat_le, nat_tests, neg_ℤ, negsuc, Never, no_file, None, none_of, NoSuch, not, not_due_refusal, NotDue, numbers, of_deposit, of_hold, office_row, OfficeRow, Ok, On, OnClass, OnCollection, OnDeposit, one-add, Option, option_map, option_map_none, option_map_or, option_map_some, option_or, or-true, or_left, other_way, Pattern, pattern_text, picture, PlacedHold, policy, PolicyValue, pos, position, position_from, range_with_len, reaches, Record, record_of, refl, Refusal, refusal, refusal_in, Release, release_day, release_denial, release_denial_of, Released, released_in, ReleasedHold, Report, report_on, report_or_text, Request, Result, role_of, row_of_class, row_of_deposit, row_of_due, row_of_hold, Rule, rule_row, rule_rows, RuleRow, rules, Run, same_date, same_Some, step, set_of, set_text, SetFault, signed_arith, slice_get, slice_get-map, slice_get_past, slice_get_within, Some, Step, subst, suc, sym, Tables, Taken, Target, told_hold, told_holds, told_of, true, true≢false, unsigned_abs, unwrap_or, Valid, valid_bag, Wanted, with_changes, years_back, years_in, years_number, years_of, zero, ◌||◌, ℕ, ℤ, ◌∙◌, ◌∷◌, ◌≡◌, ◌≢◌, ◌≤◌, ◌≤ℤ◌, ◌⊎◌, ⊤, by_Bool, by_Option, false_from_ne_true}
pub use Rattle.office_history.proofs.HistoryLemmas.{bag_stays, no_deposit_before, no_hold_before, one_deposit, one_hold, same_deposits, same_holds}
pub use Rattle.office_history.proofs.ListLemmas.{all_numbered, all_said, each, first_said_front, last_said_last, none_passes, numbered_cases, numbered_front, numbered_last, split_two}
pub use Rattle.office_history.proofs.MemberLemmas.{at_or_above, first_places_have, gathered_has, has_at, has_gathered, has_in_places, numbered_has}
