-- The lemmas of this crate that several proofs of its functions cite, passed on from one place. Declares nothing.
pub use Rattle.office_deposits.proofs.Common.{◌>>=◌, [], allowed_by, allowed_rows, ap, bad_bag, bag_of, Changes, changes_by, clean_first, closed_ahead_refusal, contents_after, contents_in, count_of, denial_in, deposit_numbered, DepositDetails, DepositRow, digests_of, disposal_facts, disposal_refusal, due_number, false, file_of, files_if_bag, first_told, GoesOnInTurn, highest_deposit, if_any, IfOk, IfOk-weaker, in_turn, inside_after, inside_failed, inside_then, stored_with_due, List, None, none_called, none_first, number_after, of_deposit, office_still, Ok, on_ok_weaker, one_first, Option, option_map, pos, refl, Refusal, refusal_of, refusals_before_the_bag, refusals_of_the_bag, refused_by, request_of, result_err, rewrites_then, rewrites_then_in_turn, rewritten_after, rewritten_as, role_in, role_name, row_of, rules, same_Some, SFits, Some, state, subst, sym, TableFault, Tables, tables_of, Taken, then_in_turn, to_z-of_z, told_before, true, turn_as, turn_then, visit_of, visit_on, w32, w64, with_content_of, with_contents_of, with_file, with_files, with_gone, with_deposit_and_due, without_contents_of, without_files, years_of_number, years_shown, ◌∙◌, ◌∷◌, ◌≡◌}
pub use Rattle.office_deposits.proofs.FilesAdded.{Adds, all_added, digest_at, next_file}
pub use Rattle.office_deposits.proofs.StoredAs.{due_read, kept_beside, next_kept}
pub use Rattle.office_deposits.proofs.RefusedFirst.{all_told_first, both_of_ok, denial_first, no_class_first, no_collection_first, one_told, row_number}
pub use Rattle.office_deposits.proofs.Rewritten.{rewrites_by}
