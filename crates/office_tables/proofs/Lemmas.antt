-- The lemmas of this crate that several proofs of its functions cite, passed on from one place. Declares nothing.
pub use Rattle.office_tables.proofs.ClassLemmas.{adds_class, adds_class_same, finds_years, puts_class, revises_class, revises_class_same}
pub use Rattle.office_tables.proofs.CollectionLemmas.{adds_collection, finds_collection}
pub use Rattle.office_tables.proofs.Common.{◌+◌, ◌==◌, [], added_row, ap, at_drop_more, Bor, Builds, CallerRow, drop, Executes, Fifth, Fourth, HasCleanDisk, HoldRow, IfOk-weaker, IsOffice, length, List, map, no_schema, None, not, office_schema, Ok, on_ok, on_ok_weaker, Option, option_map, pos, refl, rules, schema_at, slice_index_or, state, string_bytes, subst, sym, TableFault, tables_of, Third, this_version, to_z-of_z, true, vec_len, w64, with_caller, with_callers, with_rule, with_rules, Writes, ℕ, ℤ, ◌∙◌, ◌∷◌, ◌≡◌}
pub use Rattle.office_contents.proofs.ContentLemmas.{any_is}
pub use Rattle.office_tables.proofs.CreateLemmas.{leaves_made, starts_office, starts_once}
pub use Rattle.office_tables.proofs.CreateTexts.{builds_hold_4, builds_office, builds_rule_5}
pub use Rattle.office_tables.proofs.DepositLemmas.{finds_accession, finds_deposit, finds_last, lists_deposits, marks_gone}
pub use Rattle.office_tables.proofs.DueLemmas.{adds_holds, adds_holds_class, clears_due, clears_dues, finds_due, lists_beside, lists_class, lists_due, sets_due, sets_dues, sets_holds}
pub use Rattle.office_contents.proofs.FileLemmas.{has_content, has_intact}
pub use Rattle.office_contents.proofs.Frames.{stored_once, same_after, same_as}
pub use Rattle.office_tables.proofs.HoldLemmas.{bound_number, bound_text, ends_hold, finds_hold, gathers_live, hold_was_new, lists_of_class, lists_on, lists_within, none_of_class, none_on, none_within, params_of, puts_hold}
pub use Rattle.office_contents.proofs.InTurn.{clean_first, in_turn, inside_after, inside_failed, none_called, turn_failed, turn_next, whatever}
pub use Rattle.office_tables.proofs.PolicyLemmas.{adds_caller, adds_rule, drops_callers, drops_rules, finds_role, lists_rules, puts_policy}
pub use Rattle.office_tables.proofs.PuttingEach.{ArePut, puts_next}
pub use Rattle.office_tables.proofs.ReleaseLemmas.{gathers_outside, some_in_store, tells_outside}
pub use Rattle.office_tables.proofs.SameContents.{add_caller_same, add_collection_same, add_deposit_same, add_hold_same, add_holds_class_same, add_holds_same, add_rule_same, clear_day_same, clear_days_same, drop_callers_same, drop_rules_same, end_hold_same, mark_gone_same, set_day_same, set_days_same, set_holds_same}
pub use Rattle.office_contents.proofs.Undone.{fails_in_store}
