-- The names that several proofs of this crate cite, passed on from one place. Declares nothing.
pub use Rattle.bag_check.specs.Digests.{digests_of}
pub use Rattle.bag_text.specs.TransferReading.{file_of, files_of}
pub use Rattle.office_access.proofs.FirstTold.{none_first, one_first}
pub use Rattle.office_access.proofs.RowsTold.{office_still, told_before}
pub use Rattle.office_access.proofs.ServedBy.{allowed_by, changes_by, refused_by, rewrites_then, rewrites_then_in_turn, rewritten_after, rewritten_as}
pub use Rattle.office_access.specs.Asking.{role_name, visit_on}
pub use Rattle.office_access.specs.Contents.{Contents, contents_after, contents_in, files_if_bag, with_content_of, with_contents_of, without_contents_of}
pub use Rattle.office_access.specs.Serving.{Changes, IsRewrittenBy, Rewrites}
pub use Rattle.office_by_rows.specs.Asking.{denial_in, role_in, Visit}
pub use Rattle.office_by_rows.specs.Changes.{allowed_rows, count_in, due_in, if_bag, new_deposit, with_files}
pub use Rattle.office_by_rows.specs.Refusals.{disposal_facts, disposal_refusal, first_told, full_after, highest_deposit, no_such_class, number_after, of_deposit, filing_refusals, refusals_before_the_bag, refusals_of_the_bag}
pub use Rattle.office_by_rows.specs.Values.{count_of, if_any, years_of_number}
pub use Rattle.office_core.specs.FirstOf.{◌>>=◌, answer_if, first_some}
pub use Rattle.office_core.specs.Retention.{due_number}
pub use Rattle.office_core.specs.declared.refusal.Refusal.{Refusal}
pub use Rattle.office_core.specs.declared.refusal.Refusal.TheVariants.{NoSuch, Taken}
pub use Rattle.office_history.specs.Bags.{bag_of}
pub use Rattle.office_history.specs.Refusals.{bad_bag, closed_ahead_refusal, refusal_of}
pub use Rattle.office_deposits.specs.Details.{request_of, row_of, visit_of}
pub use Rattle.office_deposits.specs.Stored.{stored_with_due, years_shown}
pub use Rattle.office_deposits.specs.declared.details.DepositDetails.{DepositDetails}
pub use Rattle.office_rows.specs.Rows.{class_named, ClassRow, deposit_numbered, DepositRow, has_collection, is_deposit, last_number, Tables, with_file, with_gone, with_deposit_and_due, without_files}
pub use Rattle.office_contents.proofs.InTurn.{clean_first, in_turn, inside_after, inside_failed, inside_then, none_called, then_in_turn, turn_as, turn_then}
pub use Rattle.office_contents.specs.Calls.{GoesOnInside, GoesOnInTurn, Writes}
pub use Rattle.office_contents.specs.Contents.{Does, StoresOnce, LeavesOnce, references_of}
pub use Rattle.office_contents.specs.Tables.{Becomes, contents_of, IsOffice, tables_of}
pub use Rattle.office_contents.specs.declared.fault.TableFault.{TableFault}
pub use Rattle.sqlite.specs.Effect.{Database}
pub use Rattle.sqlite.specs.Held.{Held, state}
pub use Rattle.sqlite.specs.Store.{Ghosts}
pub use Rattle.std.proofs.Common.{◌+◌, ◌<◌, [], ap, arith, Bor, drop, Err, false, IfOk, is_none, length, List, map, MutBor, None, not, Ok, Option, option_map, pos, refl, Result, rules, SFits, slice_index_or, Some, subst, suc, sym, true, w32, w64, zero, ℕ, ℤ, ◌∙◌, ◌∷◌, ◌≡◌, ◌≤◌}
pub use Rattle.std.proofs.lemmas.Int.{to_z-of_z}
pub use Rattle.std.proofs.lemmas.Option.{same_Some}
pub use Rattle.std.proofs.lemmas.Result.{IfOk-weaker, on_ok_weaker}
pub use Rattle.std.specs.Result.{result_err}
