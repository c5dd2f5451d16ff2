-- The names that several proofs of this crate cite, passed on from one place. Declares nothing.
pub use Rattle.jiff.specs.Words.{epoch_day}
pub use Rattle.office_access.proofs.FirstTold.{none_first, one_first}
pub use Rattle.office_access.proofs.RowsTold.{office_still, there_is, there_told, told_before}
pub use Rattle.office_access.proofs.ServedBy.{allowed_by, changed_after, changed_as, changes_by, changes_then, refused_by}
pub use Rattle.office_access.specs.Asking.{visit_on}
pub use Rattle.office_access.specs.Told.{held_target}
pub use Rattle.office_by_rows.specs.Asking.{denial_in, hold_by, target_of, Visit}
pub use Rattle.office_by_rows.specs.Changes.{allowed_rows, counted_on, counted_over, new_hold}
pub use Rattle.office_by_rows.specs.Refusals.{denial_at, first_told, full_after, full_of_holds, highest_hold, hold_denials, hold_refusals, number_after, of_hold, refusal, release_denial, release_denial_at, release_denial_on, released_refusal}
pub use Rattle.office_core.specs.FirstOf.{◌>>=◌, answer_if}
pub use Rattle.office_core.specs.declared.refusal.Refusal.{Refusal}
pub use Rattle.office_history.specs.Pictures.{held_deposit}
pub use Rattle.office_holds.specs.Targets.{denial_of_name, hold_request, is_there_in, name_denial, subject_of}
pub use Rattle.office_rows.specs.Rows.{due_numbered, DueRow, has_collection, hold_numbered, HoldRow, Limits, limits_of, Tables, with_hold, with_holds, with_more_holds, with_more_holds_class, with_released}
pub use Rattle.office_contents.proofs.InTurn.{clean_first, inside_after, inside_then}
pub use Rattle.office_contents.specs.declared.fault.TableFault.{TableFault}
pub use Rattle.office_contents.specs.declared.fault.TableFault.TheVariants.{Memory, Store}
pub use Rattle.std.proofs.Common.{◌&&◌, ◌+ℤ◌, ◌==◌, [], ap, Bool, Err, false, IfErr, IfOk, if◌then◌else◌, List, negsuc, None, not, Ok, Option, option_map, pos, refl, Result, rules, SFits, Some, subst, sym, true, unwrap_or, w64, ℕ, ℤ, ◌↔◌, ◌∙◌, ◌∷◌, ◌≡◌}
pub use Rattle.std.proofs.lemmas.Int.{to_z-of_z}
pub use Rattle.std.proofs.lemmas.Result.{IfErr-weaker, IfOk-weaker, on_ok_weaker}
pub use Rattle.std.specs.Result.{result_err}
