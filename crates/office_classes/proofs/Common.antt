-- The names that several proofs of this crate cite, passed on from one place. Declares nothing.
pub use Rattle.office_access.proofs.RowsTold.{office_still, there_is}
pub use Rattle.office_access.proofs.ServedBy.{allowed_by, changed_after, changed_as, changes_by, changes_next, changes_then, refused_by, unchanged_by}
pub use Rattle.office_access.specs.Asking.{visit_on}
pub use Rattle.office_access.specs.Serving.{Changes}
pub use Rattle.office_by_rows.specs.Changes.{installed, with_due_days}
pub use Rattle.office_by_rows.specs.Refusals.{first_told}
pub use Rattle.office_by_rows.specs.Values.{day_numbered}
pub use Rattle.office_core.specs.RetentionReading.{due_of}
pub use Rattle.office_history.specs.Pictures.{caller_row, due_number, rule_row, rule_rows, years_number}
pub use Rattle.office_rows.specs.Rows.{DueRow, has_class, is_due_between, is_due_of, Tables, with_class, with_collection, with_due, with_dues, with_new_class, with_years}
pub use Rattle.office_rows.specs.Told.{class_closings, ClosingRow}
pub use Rattle.office_contents.proofs.InTurn.{clean_first, none_called, turn_next}
pub use Rattle.office_contents.specs.Calls.{GoesOnInTurn}
pub use Rattle.office_contents.specs.Tables.{tables_of}
pub use Rattle.office_contents.specs.declared.fault.TableFault.{TableFault}
pub use Rattle.sqlite.specs.Held.{state}
pub use Rattle.std.proofs.Common.{◌&&◌, ◌+◌, ◌++◌, ◌+ℤ◌, [], ap, append-nil, append_assoc, ap₂, arith, Bool, drop, false, if◌then◌else◌, IsTrue, List, map, None, Ok, Option, option_map, pos, refl, rules, SFits, Some, subst, suc, sym, take, true, w64, zero, ◌||◌, ℕ, ℤ, ◌∙◌, ◌∷◌, ◌≡◌, ◌≤ℤ◌}
pub use Rattle.std.proofs.lemmas.Int.{ints, to_z-of_z}
pub use Rattle.std.proofs.lemmas.Result.{on_ok_weaker}
