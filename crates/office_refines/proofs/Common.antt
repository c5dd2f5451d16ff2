-- The names that several proofs of this crate cite, passed on from one place. Declares nothing.
pub use Rattle.bag_text.proofs.ElementLemmas.{contains_has, Has, slice_get_last}
pub use Rattle.bag_text.specs.Paths.{is_good}
pub use Rattle.bag_text.specs.TransferForm.{Ascends, content_at, File, Fits, IsBag, max_content, max_files, set_text}
pub use Rattle.jiff.specs.Types.{Date}
pub use Rattle.jiff.specs.Words.{epoch_day, IsBetween, IsEpochDay}
pub use Rattle.jiff_core.proofs.SignedLemmas.{signed_arith}
pub use Rattle.office_by_rows.proofs.ComesTo.{between, counted_read, days_read, decision_is, facts_told, least_read, place_is}
pub use Rattle.office_by_rows.proofs.Days.{day_back, days_back, due_back}
pub use Rattle.office_by_rows.specs.Answers.{allowed_answer, audit_of, audit_unless, bag_in, content_stored, due_list, file_in, has_names, holds_in, is_allowed_for, is_shown_unless, listed_record, listed_records, path_cmp, disposable_told, record_by, record_in, stored_files, told_if}
pub use Rattle.office_by_rows.specs.Asking.{are_released_on_days, counted_hold_in, Days, days_of, decision_by, decision_for, denial_in, hold_by, is_day_or_none, is_over, is_rule, or_empty, role_by, role_in, target_named, target_of, told_hold, told_holds, Visit}
pub use Rattle.office_by_rows.specs.Changes.{allowed_rows, count_in, counted_on, counted_over, due_in, if_bag, stored_as, new_deposit, new_hold, placed, released, with_due_days, with_files, with_years}
pub use Rattle.office_by_rows.specs.Refusals.{disposal_facts, disposal_refusal, first_told, full_after, full_of_deposits, full_of_holds, highest_deposit, highest_hold, hold_refusals, kept_refusals, no_such_class, no_such_collection, number_after, of_hold, refusal, refusals, refusals_before_the_bag, refusals_of_the_bag, release_denial, release_denial_on, released_refusal, taken_refusal}
pub use Rattle.office_by_rows.specs.Serving.{serve, serve_unless}
pub use Rattle.office_by_rows.specs.Values.{all_told, count_up_to, day_numbered, due_of_number, effect_of, if_any, is_action_pattern, is_between, is_pattern, things_told, years_of_number}
pub use Rattle.office_core.specs.Actions.{action_of, action_text}
pub use Rattle.office_core.specs.Bounds.{max_rules, max_years}
pub use Rattle.office_core.specs.Days.{first_day_number, IsDayNumber, last_day_number}
pub use Rattle.office_core.specs.FirstOf.{◌>>=◌, answer_if, first_some}
pub use Rattle.office_core.specs.Names.{is_name, IsName}
pub use Rattle.office_core.specs.Policies.{HasNames, IsNamed, IsPolicy, or_stranger, PolicyValue, role_of}
pub use Rattle.office_core.specs.RetentionReading.{due_of}
pub use Rattle.office_core.specs.Verdicts.{denial_verdict, gone_verdict, verdict_of}
pub use Rattle.office_core.specs.declared.action.Action.{Action}
pub use Rattle.office_core.specs.declared.answer.Answer.{Answer}
pub use Rattle.office_core.specs.declared.answer.DepositRecord.{DepositRecord}
pub use Rattle.office_core.specs.declared.refusal.Refusal.{Refusal}
pub use Rattle.office_core.specs.declared.refusal.Refusal.TheVariants.{Full, Gone, NoFile, NoSuch, Released}
pub use Rattle.office_core.specs.declared.request.Request.{Request}
pub use Rattle.office_core.specs.declared.request.Request.TheVariants.{Audit, DefineClass, DefineCollection, Dispose, DownloadBag, DownloadFile, DueList, HoldClass, HoldCollection, HoldDeposit, Holds, Record, Release}
pub use Rattle.office_core.specs.declared.retention.Due.TheVariants.{Never, On}
pub use Rattle.office_core.specs.declared.rule.Rule.{Rule}
pub use Rattle.office_history.proofs.Accepted.{allowed_of, depositable, disposable, grown_by_none, releasable, not_gone}
pub use Rattle.office_history.proofs.Alike.{gone_grown, last_said-append, or_none, policy_grown, released_grown}
pub use Rattle.office_history.proofs.AlikeAnswers.{among_first_places}
pub use Rattle.office_history.proofs.HistoryLemmas.{LeavesCollections, LeavesDeposits, LeavesHolds, one_deposit, one_hold, same_collections, same_deposits, same_holds}
pub use Rattle.office_history.proofs.LegalReadings.{legal_policy, none_gone, none_released}
pub use Rattle.office_history.proofs.ListLemmas.{all_numbered, each}
pub use Rattle.office_history.proofs.Pictured.{all_distinct, all_have_years, different, HasYears, not_star, row_years, rows_by, same_list, there_is, told_at, years_read, own, files_told}
pub use Rattle.office_history.proofs.RangeLemmas.{HasTarget, IsDeposited, limits_hold, placed_holds, ranged_deposits}
pub use Rattle.office_history.specs.Acceptance.{IsPlaceable, IsReleasable, IsThere}
pub use Rattle.office_history.specs.Answers.{allowed_change, answer_unless, changes_unless, deposit_change, file_answer, is_selected, live_hold, record_of, scope_of, told_of, Wanted}
pub use Rattle.office_history.specs.Bags.{bag_of, report_on}
pub use Rattle.office_history.specs.Histories.{accession_of, Change, collection_in, collections, covers, DefinedClass, DefinedCollection, Deposit, deposit_numbered, Deposited, deposits, Destroyed, destroyed_in, destruction_day, due, has_class, has_collection, History, Hold, hold_numbered, holds, Installed, installed_in, is_live, least_hold, live_holds, OnClass, OnCollection, OnDeposit, PlacedHold, policy, reaches, release_day, released_in, ReleasedHold, Target, with_changes, years_in, years_of}
pub use Rattle.office_history.specs.Lists.{distinct_after, first_said, in_first_places, item_numbered, last_said, numbers}
pub use Rattle.office_history.specs.Pictures.{action_pattern_text, caller_row, class_in, class_row, class_rows, collection_rows, deposit_row, deposit_rows, description_of, due_number, due_row, due_rows, effect_number, file_row, file_rows, held_class, held_collection, held_deposit, hold_row, hold_rows, office_row, pattern_text, picture, row_by_gone, row_by_release, rule_row, rule_rows, years_back, years_number}
pub use Rattle.office_history.specs.Refusals.{deciding_rule, deciding_rule_at, denial, denial_at, disposal_refusals, facts_of, file_refusals, gone_refusal, held_refusal, no_file, not_due_refusal, of_deposit, refusal_in, refusal_of}
pub use Rattle.office_history.specs.RowRanges.{AreInRange, AreNumbered, IsActionText, IsCallerRow, IsClassRow, IsDepositRow, IsDueRow, IsHoldRow, IsPatternText, IsRuleRow}
pub use Rattle.office_history.specs.Runs.{IsLegal, IsSound}
pub use Rattle.office_history.specs.Stocks.{files_of}
pub use Rattle.office_refines.specs.Refining.{HasBagOf, place_and_effect, refusal_before, rule_and_effect}
pub use Rattle.office_rows.proofs.Order.{map_back, put_last, sorted_already}
pub use Rattle.office_rows.specs.Matching.{fits_attempt, fits_name, matching_rule}
pub use Rattle.office_rows.specs.Rows.{beside, caller_named, CallerRow, class_named, ClassRow, deposit_by, DepositRow, due_numbered, DueRow, FileRow, has_accession, HoldRow, is_by, is_caller, is_class, is_deposit, is_disposable, is_due_of, is_file_of, is_hold, is_live_over, is_of_class, is_within, last_number, least_number, more_holds, OfficeRow, PlacesRise, put_by, RuleRow, Tables, this_version, with_class, with_collection, with_due, with_gone, with_hold, with_holds, with_deposit_and_due, with_new_class, with_new_collection, with_policy, with_released, without_files}
pub use Rattle.office_rows.specs.Told.{closing_of, disposable_rows, disposable_row, DisposableRow}
pub use Rattle.sqlite_keyed.specs.Lists.{insert_sorted, sort_by}
pub use Rattle.std.proofs.Common.{◌&&◌, ◌*◌, ◌+◌, ◌++◌, ◌+ℤ◌, ◌<◌, ◌==◌, [], add-one, ap, append-nil, append_assoc, ap₂, arith, Bool, bytes_eq, codes, cond, false, filter, find, IfSome, if◌then◌else◌, inl, inr, int_cmp, int_eq, int_le, int_lt, is_ge, is_gt, is_le, is_lt, is_none, is_some, IsSome, length, Less, List, map, nat_cmp, nat_le, nat_lt, neg_ℤ, negsuc, None, not, Option, option_and_then, option_map, pos, position, refl, Result, rules, slice_get, Some, subst, suc, sym, true, true≢false, unwrap_or, zero, ◌||◌, ℕ, ℤ, ◌∙◌, ◌∷◌, ◌≡◌, ◌≤◌, ◌≤ℤ◌}
pub use Rattle.std.proofs.lemmas.Bool.{and_parts, or_right, false_from_ne_true}
pub use Rattle.std.proofs.lemmas.Bool.Decides.{Decides-eqb, Decides-int_eq, nat_tests}
pub use Rattle.std.proofs.lemmas.Int.{ints}
pub use Rattle.std.proofs.lemmas.List.{length-map, length_push}
pub use Rattle.std.proofs.lemmas.List.Elements.{filter-append, filter_map-append}
pub use Rattle.std.proofs.lemmas.Option.{same_Some, slice_get_past, slice_get_within}
pub use Rattle.std.proofs.lemmas.Slice.Eq.{bytes_eq-Decides}
pub use Rattle.std.specs.List.{AllByRecursion, cons_option, filter_map, flat_map, list_all, list_any, position_or_len, range_with_len}
pub use Rattle.std.specs.Option.{option_map_or, option_or}
pub use Rattle.office_core.proofs.OptionLemmas.{by_Bool, by_Option, none_of}
pub use Rattle.office_history.proofs.CoverLemmas.{was_placed}
pub use Rattle.office_history.proofs.RowLemmas.{few_live}
