-- The names that several proofs of this crate cite, passed on from one place. Declares nothing.
pub use Rattle.bag_text.specs.Paths.{is_good}
pub use Rattle.bag_text.specs.TransferForm.{File, set_text}
pub use Rattle.office_access.specs.Asking.{Visit, visit_on}
pub use Rattle.office_access.specs.Contents.{are_intact_of, Contents, contents_after, is_intact_at, IsOfficeWith, Rows, rows_of, downloads_intact, downloads_intact_bag, downloads_intact_file}
pub use Rattle.office_access.specs.Pictures.{Pictures, PicturesAt}
pub use Rattle.office_access.specs.Serving.{Changes, IsServedBy, rows_after, serve_rows, Serves}
pub use Rattle.office_by_rows.specs.Answers.{allowed_answer, content_stored, files_by_path, path_cmp, stored_files}
pub use Rattle.office_by_rows.specs.Changes.{allowed_rows, installed}
pub use Rattle.office_by_rows.specs.Refusals.{highest_deposit, highest_hold, number_after, refusal}
pub use Rattle.office_by_rows.specs.Serving.{serve, serve_unless}
pub use Rattle.office_core.specs.FirstOf.{◌>>=◌, answer_if}
pub use Rattle.office_core.specs.declared.answer.Answer.{Answer}
pub use Rattle.office_core.specs.declared.refusal.Refusal.{Refusal}
pub use Rattle.office_core.specs.declared.request.Request.{Request}
pub use Rattle.office_core.specs.declared.request.Request.TheVariants.{DefineClass, DefineCollection, Deposit, Dispose, DownloadBag, DownloadFile, DueList, HoldClass, HoldCollection, HoldDeposit, Release}
pub use Rattle.office_engine.specs.ByRows.{rows_installed, RowsMake, RowsRun}
pub use Rattle.office_engine.specs.Deciding.{Finds}
pub use Rattle.office_engine.specs.Storing.{after_item, after_policy, AllStayShut, AreToldDue, CommitsRows, CommitsTo, InstalledRowsLast, InstallLasts, Installs, InstallsRows, InTurn, is_accepted, IsFoundAfter, IsFoundBy, IsStoredAt, IsStoredBy, IsLeftAt, IsLeftOf, IsLegalAndStored, IsToldStock, IsTurn, HasSameTables, LeavesAlso, LeavesEither, LeavesInstalled, LeavesInstalledRows, LeavesRun, LeavesRunRows, Runs, RunsRows}
pub use Rattle.office_engine.specs.Upgrading.{all_rows_of, GoesBackAt, IsLeftOfUpgrade, IsUpgradeOf, LeavesAt, OpensOlder, StaysAt, StoppedInTurn, TakesUp, UpgradeLasts, Upgrades}
pub use Rattle.office_history.proofs.Accepted.{grown_by_none}
pub use Rattle.office_history.proofs.RangeLemmas.{limits_hold}
pub use Rattle.office_history.specs.Answers.{after, allowed_change, answer, answer_unless, change, changes_unless, due_list, file_answer}
pub use Rattle.office_history.specs.Histories.{Change, History, kept_numbers, with_changes}
pub use Rattle.office_history.specs.Pictures.{file_row, office_row, picture}
pub use Rattle.office_history.specs.Runs.{IsFailure, IsItem, IsLater, IsLegal, Item, new_history, Run}
pub use Rattle.office_rows.specs.Rows.{ContentRow, empty_office, file_at, FileRow, files_of, is_known, OfficeRow, Tables, this_version, version_of}
pub use Rattle.office_contents.proofs.FileLemmas.{each_found}
pub use Rattle.office_contents.specs.Contents.{AreContents, AreStoredOnce, content_at, DiffersInBytes, is_intact, references_of}
pub use Rattle.office_tables.specs.Moving.{AllRows, BecomesAt, renewed}
pub use Rattle.office_contents.specs.Tables.{contents_of, IsOffice, tables_of}
pub use Rattle.office_contents.specs.declared.fault.TableFault.{TableFault}
pub use Rattle.office_contents.specs.Versions.{Newest}
pub use Rattle.office_contents.specs.declared.version.TableVersion.TheVariants.{Third}
pub use Rattle.sqlite.proofs.StateLemmas.{survives_then, survives_weaker}
pub use Rattle.sqlite.specs.Effect.{Database}
pub use Rattle.sqlite.specs.Held.{Held, state}
pub use Rattle.sqlite.specs.State.{HasCleanDisk, IsRolledBack, Shows, State, Survives}
pub use Rattle.sqlite.specs.Store.{Ghosts}
pub use Rattle.sqlite.specs.Tree.{Trees}
pub use Rattle.sqlite_keyed.proofs.ListLemmas.{map-map}
pub use Rattle.sqlite_rules.proofs.ListLemmas.{all_from, all_has, has_filtered, has_kept}
pub use Rattle.sqlite_rules.specs.Lists.{Has}
pub use Rattle.std.proofs.Common.{◌+◌, ◌++◌, ◌<◌, [], All, ap, ap₂, arith, Bool, bytes_eq, drop, Err, false, filter, find, get_or, IfOk, if◌then◌else◌, inl, inr, is_none, IsOkAnd, IsPermutation, IsTrue, length, List, map, nat_le, None, not, Ok, OnErr, OnOk, Option, option_map, pos, refl, Result, rules, Some, subst, subst₂, suc, sum, sym, take, true, true≢false, vec_capacity, vec_len, zero, ℕ, ℤ, ◌∙◌, ◌∷◌, ◌≡◌, ◌≢◌, ◌≤◌, ◌⊎◌}
pub use Rattle.std.proofs.lemmas.Bool.{and_from, and_parts, cases_Bool}
pub use Rattle.std.proofs.lemmas.List.{length-map, map-append, take_all, take_more}
pub use Rattle.std.proofs.lemmas.List.Elements.{All-cons, All-head, All-nil, All-tail}
pub use Rattle.std.proofs.lemmas.List.Sorted.{IsPermutation-cons, IsPermutation-middle, IsPermutation-refl, IsPermutation-sym, IsPermutation-trans, length_permutation, sum_by-IsPermutation}
pub use Rattle.std.proofs.lemmas.Option.{same_Some}
pub use Rattle.std.proofs.lemmas.Result.{IfOk-weaker, on_err_weaker}
pub use Rattle.std.proofs.lemmas.Slice.Eq.{bytes_eq-Decides}
pub use Rattle.std.specs.List.{AllByRecursion, flat_map, list_all}
unfoldable pub use Rattle.std.specs.List.{IsDistinct}
pub use Rattle.std.specs.Prelude.{⊤}
