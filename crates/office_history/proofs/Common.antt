-- The names that several proofs of this crate cite, passed on from one place. Declares nothing.
pub use Rattle.bag_check.specs.Validity.{payload_bytes, payload_files, Report, Valid}
pub use Rattle.bag_text.proofs.ElementLemmas.{any_has, contains_has, filter_has, Has, has_contains, has_filter, has_map, map_has, slice_get-append, slice_get_last}
pub use Rattle.bag_text.proofs.OrderLemmas.{other_way}
pub use Rattle.bag_text.proofs.ResultLemmas.{is_nothing}
pub use Rattle.bag_text.specs.TransferForm.{content_at, File, Fits, IsBag, set_text}
pub use Rattle.bag_text.specs.TransferReading.{set_of}
pub use Rattle.bag_text.specs.declared.set_fault.SetFault.{SetFault}
pub use Rattle.jiff.specs.Types.{Date}
pub use Rattle.jiff.specs.Words.{epoch_day, IsBetween}
pub use Rattle.jiff_core.proofs.DateLemmas.{epoch_day-lt, epoch_day_injective, epoch_day_range}
pub use Rattle.jiff_core.proofs.SignedLemmas.{signed_arith}
pub use Rattle.office_core.proofs.DayLemmas.{day_number, same_date}
pub use Rattle.office_core.proofs.OptionLemmas.{answer_if_none, none_of, option_map_none, option_map_some, by_Bool, by_Option}
pub use Rattle.office_core.specs.Days.{first_year, IsDay, IsDayNumber, IsYearsAfter, last_year}
pub use Rattle.office_core.specs.Descriptions.{Description, IsDescription}
pub use Rattle.office_core.specs.FirstOf.{answer_if, first_some}
pub use Rattle.office_core.specs.Names.{is_name, IsName}
pub use Rattle.office_core.specs.Policies.{HasDays, HasNames, IsNamed, IsNamedCaller, IsPolicy, PolicyValue, role_of}
pub use Rattle.office_core.specs.Requests.{IsRequest, IsYears}
pub use Rattle.office_core.specs.RetentionReading.{due_of}
pub use Rattle.office_core.specs.Rules.{allows, asked_on, decision_of, HasNoDays, Question}
pub use Rattle.office_core.specs.Verdicts.{due_verdict, gone_verdict, hold_verdict, verdict_of}
pub use Rattle.office_core.specs.declared.action.Action.{Action}
pub use Rattle.office_core.specs.declared.answer.Answer.{Answer}
pub use Rattle.office_core.specs.declared.caller.Caller.{Caller}
pub use Rattle.office_core.specs.declared.facts.Verdict.TheVariants.{NotDue}
pub use Rattle.office_core.specs.declared.refusal.Refusal.{Refusal}
pub use Rattle.office_core.specs.declared.refusal.Refusal.TheVariants.{DeniedByDefault, Full, Gone, Held, NoSuch, Released, Taken}
pub use Rattle.office_core.specs.declared.request.Request.{Request}
pub use Rattle.office_core.specs.declared.request.Request.TheVariants.{Audit, DefineClass, DefineCollection, Dispose, DownloadBag, DownloadFile, DueList, HoldClass, HoldCollection, HoldDeposit, Holds, Record, Release}
pub use Rattle.office_core.specs.declared.retention.Due.{Due}
pub use Rattle.office_core.specs.declared.retention.Due.TheVariants.{Never, On}
pub use Rattle.office_core.specs.declared.rule.ActionPattern.{ActionPattern}
pub use Rattle.office_core.specs.declared.rule.Decision.{Decision}
pub use Rattle.office_core.specs.declared.rule.Effect.{Effect}
pub use Rattle.office_core.specs.declared.rule.Effect.TheVariants.{Allow, Deny}
pub use Rattle.office_core.specs.declared.rule.Pattern.{Pattern}
pub use Rattle.office_core.specs.declared.rule.Rule.{Rule}
pub use Rattle.office_history.specs.Acceptance.{IsAllowed, IsChange, IsDepositable, IsDisposable, IsHold, IsPlaceable, IsReleasable, IsThere}
pub use Rattle.office_history.specs.Answers.{after, allowed_answer, allowed_change, answer, answer_unless, audit_report, change, changes_unless, deposit_change, due_list, file_answer, is_selected, listed_record, listed_records, live_hold, of_number, OnlyReads, record_of, told_hold, told_holds, told_of, Wanted}
pub use Rattle.office_history.specs.Bags.{bag_of, if_valid, report_on, report_or_text, valid_bag}
pub use Rattle.office_history.specs.Histories.{accession_of, Change, collection_in, collections, covers, DefinedClass, DefinedCollection, Deposit, deposit_in, deposit_numbered, Deposited, deposits, Destroyed, destroyed_in, destruction_day, due, has_accession, has_class, has_collection, History, Hold, hold_in, hold_numbered, holds, Installed, installed_in, is_live, kept_numbers, least_hold, live_holds, no_policy, OnClass, OnCollection, OnDeposit, PlacedHold, policy, reaches, release_day, released_in, ReleasedHold, Target, with_changes, years_in, years_of}
pub use Rattle.office_history.specs.Lists.{distinct_after, first_said, in_first_places, item_numbered, last_said, numbers}
pub use Rattle.office_history.specs.Pictures.{action_pattern_text, caller_row, class_in, class_row, class_rows, collection_rows, deposit_row, deposit_rows, description_of, due_number, due_row, due_rows, effect_number, file_row, file_rows, held_class, held_collection, held_deposit, hold_row, office_row, pattern_text, picture, row_by_gone, row_by_release, row_of_class, row_of_deposit, row_of_due, row_of_hold, rule_row, rule_rows, years_back, years_number}
pub use Rattle.office_history.specs.Refusals.{asked_refusals, bad_as, bad_bag, bag_refusals, closed_ahead_refusal, deciding_rule_at, denial, denial_at, disposal_refusals, facts_of, full_of_deposits, full_of_holds, gone_refusal, held_refusal, no_file, no_such_class, no_such_collection, not_due_refusal, of_deposit, of_hold, filing_refusals, refusal, refusal_in, refusal_of, release_denial, release_denial_of, released_refusal, taken_refusal}
pub use Rattle.office_history.specs.Runs.{AreItems, as_of, install, IsFailure, IsItem, IsLater, IsLegal, IsSound, IsWithin, Item, new, new_history, Run, step, Step}
pub use Rattle.office_history.specs.Stocks.{contents, files_of, IsKept, Stock, stock}
pub use Rattle.office_rows.proofs.Order.{all_append, all_weaker}
pub use Rattle.office_rows.specs.Rows.{CallerRow, ClassRow, DepositRow, DueRow, FileRow, HoldRow, IsLimit, OfficeRow, RuleRow, Tables}
pub use Rattle.std.proofs.Common.{◌&&◌, ◌+◌, ◌++◌, ◌<◌, ◌<ℤ◌, ◌==◌, [], ap, append-nil, append_assoc, arith, Bool, Bor, bytes_eq, codes, cond, Err, false, filter, IfSome, if◌then◌else◌, inl, inr, int_lt, is_none, is_some, IsSome, length, length-append, List, map, nat_le, nat_lt, negsuc, None, not, Ok, one-add, Option, option_map, pos, position, refl, Result, rules, slice_get, Some, subst, suc, sym, true, true≢false, unwrap_or, zero, ◌||◌, ℕ, ℤ, ◌∙◌, ◌∷◌, ◌≡◌, ◌≢◌, ◌≤◌, ◌≤ℤ◌, ◌⊎◌}
pub use Rattle.std.proofs.Math.Bool.{and-true, or-true}
pub use Rattle.std.proofs.lemmas.Bool.{and_parts, cases_Bool, or_left, or_parts, false_from_ne_true}
pub use Rattle.std.proofs.lemmas.Bool.Decides.{Decides-eqb, Decides-int_eq, nat_tests}
pub use Rattle.std.proofs.lemmas.List.{length-map, map-append}
pub use Rattle.std.proofs.lemmas.List.Elements.{filter_map-append}
pub use Rattle.std.proofs.lemmas.Option.{cond_some, same_Some, slice_get-map, slice_get_past, slice_get_within}
pub use Rattle.std.proofs.lemmas.Slice.Eq.{bytes_eq-Decides}
pub use Rattle.std.specs.List.{AllByRecursion, cons_option, filter_map, flat_map, list_any, position_from, position_or_len, prefix_len, range_with_len}
unfoldable pub use Rattle.std.specs.List.{IsDistinct}
pub use Rattle.std.specs.Option.{option_map_or, option_or}
pub use Rattle.std.specs.Prelude.{Contains, neg_ℤ, sum, unsigned_abs, ⊤}
