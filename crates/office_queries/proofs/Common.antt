-- The names that several proofs of this crate cite, passed on from one place. Declares nothing.
pub use Rattle.bag_text.specs.BagList.{list_fault, ListFault}
pub use Rattle.bag_text.specs.TransferForm.{File, IsBag, max_content, max_files, set_text}
pub use Rattle.bag_text.specs.TransferReading.{files_of}
pub use Rattle.bag_text.specs.declared.set_fault.SetFault.{SetFault}
pub use Rattle.jiff.specs.Types.{Date}
pub use Rattle.office_access.proofs.RowsTold.{office_still, told_before}
pub use Rattle.office_access.proofs.ServedBy.{read_by, refused_by}
pub use Rattle.office_access.specs.Asking.{role_name, visit_on}
pub use Rattle.office_access.specs.Contents.{Contents, contents_after, is_intact_at, Rows, rows_of, downloads_intact}
pub use Rattle.office_by_rows.specs.Answers.{audit_of, audit_unless, bag_in, content_stored, file_in, files_by_path, has_names, holds_in, is_allowed_for, is_shown, is_shown_unless, is_wanted, listed_record, listed_records, disposable_told, record_by, record_in, stored_files, told_if}
pub use Rattle.office_by_rows.specs.Asking.{Days, days_of, denial_for, told_hold, told_holds, Visit}
pub use Rattle.office_by_rows.specs.Kinds.{AreSpelled, Kind}
pub use Rattle.office_by_rows.specs.Stock.{max_total, stock_in, total_by}
pub use Rattle.office_by_rows.specs.Values.{all_told, count_of, count_up_to, day_numbered, due_of_number, if_any, things_told}
pub use Rattle.office_core.proofs.OptionLemmas.{option_map_some, some_and_then}
pub use Rattle.office_core.specs.FirstOf.{◌>>=◌, answer_if}
pub use Rattle.office_core.specs.declared.action.Action.{Action}
pub use Rattle.office_core.specs.declared.answer.DepositRecord.{DepositRecord}
pub use Rattle.office_core.specs.declared.refusal.Refusal.{Refusal}
pub use Rattle.office_core.specs.declared.request.Request.{Request}
pub use Rattle.office_core.specs.declared.retention.Due.{Due}
pub use Rattle.office_history.specs.Answers.{audit_report, file_answer, Wanted}
pub use Rattle.office_history.specs.Bags.{report_on, report_or_text}
pub use Rattle.office_history.specs.Pictures.{description_of}
pub use Rattle.office_rows.proofs.Order.{all_append, all_weaker}
pub use Rattle.office_rows.specs.Rows.{beside, ContentRow, deposit_numbered, DepositRow, due_numbered, DueRow, file_at, FileRow, RuleRow, Tables}
pub use Rattle.office_rows.specs.Told.{disposable_rows, DisposableRow}
pub use Rattle.office_queries.specs.Allowances.{AreFor, IsToldOf}
pub use Rattle.office_queries.specs.Kinds.{kind_lent, LentKind, same_kind, same_name}
pub use Rattle.office_queries.specs.Listing.{wanted_of}
pub use Rattle.office_contents.proofs.InTurn.{clean_first, in_turn, inside_failed, inside_then, none_called, then_in_turn, turn_as, turn_failed, turn_then}
pub use Rattle.office_contents.specs.Calls.{GoesOnInside, GoesOnInTurn, Shows}
pub use Rattle.office_contents.specs.Tables.{contents_of, IsOffice, tables_of}
pub use Rattle.office_contents.specs.declared.fault.TableFault.{TableFault}
pub use Rattle.office_contents.specs.declared.fault.TableFault.TheVariants.{Memory, Store}
pub use Rattle.sqlite.specs.Effect.{Database}
pub use Rattle.sqlite.specs.Held.{Held, state}
pub use Rattle.sqlite.specs.Order.{Row}
pub use Rattle.sqlite.specs.State.{HasCleanDisk}
pub use Rattle.sqlite.specs.Store.{Ghosts}
pub use Rattle.sql_meaning.specs.Columns.{int_at}
pub use Rattle.std.proofs.Common.{◌&&◌, ◌*◌, ◌+◌, ◌++◌, ◌<◌, [], ap, append-nil, arith, Bool, Bor, bytes_eq, cond, drop, Err, false, get_or, IfErr, IfOk, IfSome, if◌then◌else◌, is_none, is_some, length, List, map, MutBor, nat_le, None, Ok, ok_or, Option, option_copied, option_map, pos, refl, Result, rules, SFits, Some, String, string_bytes, string_eq, subst, sym, take, true, w32, w64, ℕ, ℤ, ◌∙◌, ◌∷◌, ◌≡◌, ◌≤◌}
pub use Rattle.std.proofs.lemmas.Bool.{and_parts, false_from_ne_true}
pub use Rattle.std.proofs.lemmas.Int.{to_z-of_z}
pub use Rattle.std.proofs.lemmas.List.{length-map, map_more, take_all, take_more}
pub use Rattle.std.proofs.lemmas.Option.{same_Some}
pub use Rattle.std.proofs.lemmas.Result.{IfErr-weaker, IfOk-weaker}
pub use Rattle.std.proofs.lemmas.Slice.Eq.{bytes_eq-Decides}
pub use Rattle.std.specs.HashMap.{get, HashMap, Updates}
pub use Rattle.std.specs.HashSet.{contains_text, HashSet, UpdatesBy}
pub use Rattle.std.specs.List.{cons_option, list_all}
