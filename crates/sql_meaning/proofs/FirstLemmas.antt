-- The lemmas of this crate on which several others rest, passed on from one place. Declares nothing.
pub use Rattle.sql_meaning.proofs.Common.{◌&&◌, ◌++◌, ◌==◌, [], agree, all-append, all_from, all_has, all_weaker, AllByRecursion, and-true, and_parts, ap, append-nil, append_assoc, Applies, ap₂, AreShaped, arith, ascending_weaker, Binary, binary, Bool, bytes_at, bytes_eq, cases_Bool, cases_lt, cast_row, Chosen, clashes, col, Collation, column, command_of, Compare, CreateIndex, CreateTable, Database, Delete, drop, Edit, edit_of, edited, Eq, Equal, Executes, false, filter, filter_all, find, Given, given, Grows, Has, has_filtered, has_kept, has_mapped, has_right, have_rowids, ids_of, if◌then◌else◌, inl, inr, Insert, Int, int_at, int_cmp, int_cmp_total, int_eq, int_is, is_eq, is_int, is_true, IsAscending, IsBlank, IsDatabase, IsPlain, IsShaped, IsSureAnswer, IsTable, IsTrue, IsWhole, Keeps, Key, Less, List, list_any, lit, MakesIndex, MakesTable, map, map-map, mapped_has, mode_of, None, none_from_any, not, not-true, Null, Ok, op2, Option, option_map, ordering_reverse, Output, output, output_cmp, overlay, pos, put_all_adds, put_all_has, put_all_keeps, Query, reads_as, reads_listing, refl, Row, rowid, runs_as, Schema, Select, Sets, Shown, slice_get, Some, some_from, some_has, State, subst, subst₂, sym, Table, take, taken_by, Term, Text, tied_itself, tied_same, Trees, true, understood, Update, value_cmp, value_cmp-Int, value_cmp_total, with_rowid, without_all, Writes, ◌||◌, ℕ, ℤ, ◌∙◌, ◌∷◌, ◌≡◌, ◌≢◌, ◌⊎◌}
pub use Rattle.sql_meaning.proofs.Edits.{deleted, edited_shaped, equal_is, filled, map_alike, set_shaped, set_table, updated}
pub use Rattle.sql_meaning.proofs.Keys.{found_by, lone, none_pass, same_int, same_key, same_text, unclashed}
pub use Rattle.sql_meaning.proofs.Scanning.{answer_complete, answer_sound, answers_one, answers_rising, as_program, noting, scan, scanned, Scans, shown_of, shown_same, unnoted}
pub use Rattle.sql_meaning.proofs.Writing.{Changes, deletes, inserts_from, IsIdle, Means, same_value, updates, went}
