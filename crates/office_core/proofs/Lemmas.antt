-- The lemmas of this crate that several proofs of its functions cite, passed on from one place. Declares nothing.
pub use Rattle.office_core.proofs.Common.{Answers, ap, arith, bytes_eq, bytes_eq-Decides, caller_entries, Date, day_parts, day_text, decision_of, epoch_day, false, false≢true, first_day, FitsSigned, has_days, IfSome_then, is_some, IsEpochDay, last_day, named_policy_fault, none-some, Ok, read_callers, read_rules, read_tree, refl, rule_values, signed_arith, Some, subst, sym, table_view, to_z-of_z, w16, w32, w64, w8, ℕ, ◌∙◌, ◌≡◌}
pub use Rattle.office_core.proofs.DayLemmas.{date_is, day_number, number_day, parts_are, parts_of-day, same_date, text_are, text_of_parts}
pub use Rattle.office_core.proofs.OptionLemmas.{find_some, IfSome_from, some_and_ok, some_ok}
pub use Rattle.office_core.proofs.PolicyNames.{callers_once, read_policy_is, spelled_policy}
pub use Rattle.office_core.proofs.RuleLemmas.{allowed_disposal, decided_alike, decided_by_patterns, denied_role, denied_verdict, first_place_is, kept_decision, matches_by_patterns, no_place_is, off_its_days, ready_disposal}
