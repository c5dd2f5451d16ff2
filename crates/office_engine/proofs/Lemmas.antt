-- The lemmas of this crate that several proofs of its functions cite, passed on from one place. Declares nothing.
pub use Rattle.office_engine.proofs.Common.{after_item, after_policy, ap, arith, Database, due_list, Finds, HasCleanDisk, IfOk-weaker, inl, inr, InstalledRowsLast, InstallLasts, Installs, InstallsRows, IsOfficeWith, IsTrue, IsTurn, Item, not, on_err_weaker, picture, Pictures, rows_installed, rules, same_Some, Serves, Some, state, subst, survives_then, survives_weaker, sym, this_version, true, Visit, visit_on, ◌∙◌, ◌≡◌, ⊤}
pub use Rattle.office_engine.proofs.Ends.{all_rows, commits_next, committed_as, either_left, either_next, failed_back, found_kept, histories, inside, IsInside, IsSettled, left_settled, MakesHistory, MakesRows, may_commit, MayCommit, of_ok, on_committed, survives_inside, unchanged, under, was_open}
pub use Rattle.office_engine.proofs.Stored.{history_goes_on, known_version, new_survives, rows_left}
pub use Rattle.office_engine.proofs.StepsByRows.{installed_history, installed_in, InstallsHistory, InstallsIn, served_history, takes_rows_step, shown_found}
pub use Rattle.office_engine.proofs.StockTold.{contents_held, stock_is, stock_told}
pub use Rattle.office_engine.proofs.Upgraded.{goes_back, kept_stands, lasts, leaves, left_fails, opens_older, stays, stopped_goes_on, stopped_in_turn, takes_up, upgrade_survives, upgrades}
