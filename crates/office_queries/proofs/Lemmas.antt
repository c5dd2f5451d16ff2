-- The lemmas of this crate that several proofs of its functions cite, passed on from one place. Declares nothing.
pub use Rattle.office_queries.proofs.AllowedTold.{known_right, more_right}
pub use Rattle.office_queries.proofs.Common.{◌+◌, ◌++◌, ◌<◌, [], all_told, ap, append-nil, arith, clean_first, cons_option, contains_text, Err, file_in, files_by_path, files_of, get, get_or, HasCleanDisk, IfErr, IfErr-weaker, IfOk-weaker, if◌then◌else◌, in_turn, is_allowed_for, is_intact_at, IsBag, IsToldOf, kind_lent, length, List, list_all, listed_record, map, Memory, none_called, office_still, disposable_told, pos, refl, role_name, rows_of, rules, same_kind, set_text, Some, state, stock_in, stored_files, subst, sym, TableFault, Tables, tables_of, take, take_all, told_hold, true, turn_as, turn_failed, turn_then, visit_on, wanted_of, ℕ, ◌∙◌, ◌∷◌, ◌≡◌, None, contents_of, int_at, IsOffice, Row}
pub use Rattle.office_queries.proofs.FormTold.{bag_is, wants_memory}
pub use Rattle.office_queries.proofs.ReadFor.{answered_after, answered_by_row, refused_after}
pub use Rattle.office_queries.proofs.ToldInTurn.{all_next, AreTold, none_told, told_next, told_of_all}
pub use Rattle.office_queries.proofs.Totals.{sizes_told}
