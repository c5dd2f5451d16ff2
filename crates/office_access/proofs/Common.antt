-- The names that several proofs of this crate cite, passed on from one place. Declares nothing.
pub use Rattle.jiff.specs.Types.{Date}
pub use Rattle.jiff.specs.Words.{epoch_day, IsBetween}
pub use Rattle.office_access.specs.Asking.{are_bounds, asks_as_rules_do, FindsNoHold, role_name, visit_on}
pub use Rattle.office_by_rows.proofs.ComesTo.{between, counted_read, days_read, decision_is, facts_told, hold_told, least_read, no_days, place_is}
pub use Rattle.office_by_rows.proofs.Days.{day_back, due_back}
pub use Rattle.office_by_rows.specs.Asking.{are_released_on_days, counted_hold_in, Days, days_of, decision_by, decision_for, denial_for, denial_in, first_hold, hold_by, is_day_or_none, is_over, is_rule, least_hold_in, or_empty, scope_of, target_named, target_of, Visit}
pub use Rattle.office_by_rows.specs.Changes.{allowed_rows, count_in}
pub use Rattle.office_by_rows.specs.Refusals.{denial_at, first_told, gone_refusal, of_deposit, refusal}
pub use Rattle.office_by_rows.specs.Values.{count_of, day_numbered, due_of_number, effect_of, if_any, is_action_pattern, is_between, is_pattern}
pub use Rattle.office_core.specs.Bounds.{max_rules}
pub use Rattle.office_core.specs.Days.{first_day_number, IsDayNumber, last_day_number}
pub use Rattle.office_core.specs.FirstOf.{◌>>=◌, answer_if}
pub use Rattle.office_core.specs.Names.{is_matter}
pub use Rattle.office_core.specs.declared.answer.LiveHold.{LiveHold}
pub use Rattle.office_core.specs.declared.refusal.Refusal.{Refusal}
pub use Rattle.office_core.specs.declared.refusal.Refusal.TheVariants.{Full, Gone}
pub use Rattle.office_core.specs.declared.rule.Decision.{Decision}
pub use Rattle.office_rows.specs.Rows.{deposit_numbered, due_numbered, HoldRow, Limits, live_holds, RuleRow, Tables}
pub use Rattle.office_contents.proofs.InTurn.{clean_first, failed_before, failed_in_turn, in_turn, inside_after, inside_as, inside_failed, inside_then, none_called, then_in_turn}
pub use Rattle.office_contents.specs.Tables.{Becomes, IsOffice, tables_of}
pub use Rattle.office_contents.specs.declared.fault.TableFault.TheVariants.{Memory, Store}
pub use Rattle.sqlite.specs.Effect.{Database}
pub use Rattle.sqlite.specs.Held.{Held, state}
pub use Rattle.std.proofs.Common.{◌&&◌, ◌+◌, ◌++◌, ◌<◌, [], ap, arith, Bool, Err, false, IfErr, IfOk, IfSome, if◌then◌else◌, inl, inr, int_le, length, List, map, MatchOption, None, not, of_z, Ok, ok_or, OnOk, Option, option_copied, option_map, pos, refl, Result, rules, SFits, slice_get, Some, subst, subst₂, sym, to_z, true, true≢false, unwrap_or, w32, w64, ◌||◌, ℕ, ℤ, ◌↔◌, ◌∙◌, ◌∷◌, ◌≡◌, ◌≤◌, ◌≤ℤ◌}
pub use Rattle.std.proofs.lemmas.Bool.{and_parts, cases_Bool, false_from_ne_true, or_parts}
pub use Rattle.std.proofs.lemmas.Int.{ints, to_z-of_z}
pub use Rattle.std.proofs.lemmas.Option.{none-some, same_Some}
pub use Rattle.std.proofs.lemmas.Result.{IfErr-weaker, IfOk-weaker, on_ok_weaker}
pub use Rattle.std.specs.List.{list_all, list_any}
