-- The lemmas of this crate that several proofs of its functions cite, passed on from one place. Declares nothing.
pub use Rattle.office_holds.proofs.Common.{[], allowed_by, allowed_rows, ap, changed_after, changed_as, changes_by, changes_then, clean_first, counted_over, denial_at, denial_of_name, due_numbered, epoch_day, false, full_of_holds, held_deposit, held_target, highest_hold, hold_denials, hold_numbered, hold_request, IfOk, IfOk-weaker, if◌then◌else◌, inside_after, inside_then, negsuc, new_hold, None, number_after, office_still, one_first, option_map, pos, refl, refused_by, release_denial_at, release_denial_on, result_err, rules, SFits, Some, Store, subst, sym, Tables, there_is, there_told, to_z-of_z, told_before, true, visit_on, w64, with_hold, with_released, ◌∙◌, ◌∷◌, ◌≡◌}
pub use Rattle.office_holds.proofs.Counted.{counted_told, full_told, put_row}
pub use Rattle.office_holds.proofs.Denied.{full_first, hold_answered, hold_refused, hold_rows, name_denied, name_released, no_hold, no_name, of_name, release_refused, released_rows, tables_before}
