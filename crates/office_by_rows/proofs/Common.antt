-- The names that several proofs of this crate cite, passed on from one place. Declares nothing.
pub use Rattle.jiff.specs.Types.{Date}
pub use Rattle.jiff.specs.Words.{days_in_month, epoch_day}
pub use Rattle.office_by_rows.specs.Asking.{are_released_on_days, counted_hold_in, Days, days_of, decision_by, decision_for, first_hold, hold_by, is_rule, least_hold_in, scope_of, told_hold}
pub use Rattle.office_by_rows.specs.Values.{count_of, date_numbered, day_numbered, due_of_number, effect_of, if_any, is_between}
unfoldable pub use Rattle.office_by_rows.specs.Values.{dates_from}
pub use Rattle.office_core.proofs.DayLemmas.{day_number, first_number}
pub use Rattle.office_core.specs.FirstOf.{◌>>=◌, answer_if}
pub use Rattle.office_core.specs.declared.retention.Due.{Due}
pub use Rattle.office_rows.specs.Rows.{DepositRow, due_numbered, DueRow, hold_numbered, HoldRow, Limits, limits_of, live_holds, RuleRow, Tables}
pub use Rattle.std.proofs.Common.{◌&&◌, ◌+◌, ◌<◌, [], ap, arith, Bool, bytes_eq, codes, cond, false, find, IfSome, if◌then◌else◌, inl, inr, int_eq, int_le, is_none, List, negsuc, None, Option, option_map, pos, refl, rules, Some, subst, sym, true, ◌||◌, ℕ, ℤ, ◌∙◌, ◌∷◌, ◌≡◌, ◌≤◌, ◌≤ℤ◌}
pub use Rattle.std.proofs.lemmas.Bool.{false_from_ne_true, true≢false}
pub use Rattle.std.proofs.lemmas.Bool.Decides.{Decides-int_eq}
pub use Rattle.std.proofs.lemmas.Option.{same_Some}
