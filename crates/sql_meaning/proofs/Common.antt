-- The names that several proofs of this crate cite, passed on from one place. Declares nothing.
pub use Rattle.sql_meaning.specs.Columns.{bytes_at, int_at}
pub use Rattle.sql_meaning.specs.Growing.{Grows}
pub use Rattle.sql_meaning.specs.Making.{MakesIndex, MakesTable}
pub use Rattle.sql_meaning.specs.Whole.{AreShaped, IsBlank, IsWhole, Sets}
pub use Rattle.sqlite.proofs.Callers.{command_of, IsPlain, one_permutation, one_step, reads_as, runs_as, survives_begin}
pub use Rattle.sqlite.specs.Cast.{cast, cast_row}
pub use Rattle.sqlite.specs.Collation.{Collation}
pub use Rattle.sqlite.specs.Collation.TheVariants.{Binary}
pub use Rattle.sqlite.specs.Command.TheVariants.{CreateIndex, CreateTable, Delete, Insert, Select, Update}
pub use Rattle.sqlite.specs.Edit.{Applies, Edit, edit_of, edited, have_rowids, id_in, next_rowid, numbered, put_all, taken_by, with_rowid, without_all}
pub use Rattle.sqlite.specs.Effect.{Answers, Database, IsDatabase, IsSource, value_rows}
pub use Rattle.sqlite.specs.Listing.{reads_listing, understood}
pub use Rattle.sqlite.specs.Ops.{from_truth, is_null, is_true}
unfoldable pub use Rattle.sqlite.specs.Ops.{binary, unary}
pub use Rattle.sqlite.specs.Order.{bytes, column, Row, value_cmp}
pub use Rattle.sqlite.specs.Query.{end, inner, IsAnswerAs, IsSureAnswer, matches_as, Output, output, output_cmp, Query}
pub use Rattle.sqlite.specs.Rowids.TheVariants.{Chosen, Given}
pub use Rattle.sqlite.specs.Schema.{Schema}
pub use Rattle.sqlite.specs.State.{Executes, ExecutesInside, Fails, FailsToShow, HasCleanDisk, IsRolledBack, IsTooLate, IsUnchanged, KeepsCommit, mode_of, ShowsRows, State, Survives, Writes}
unfoldable pub use Rattle.sqlite.specs.State.{FailsToQuery, IsNotRun, Shown}
pub use Rattle.sqlite.specs.Table.{Table}
pub use Rattle.sqlite.specs.Term.{col, eval_all, holds, lit, op2, Term}
pub use Rattle.sqlite.specs.Tree.{has_rowid, IsAscending, IsTable, put_row, rowid, Trees, without_rowid}
pub use Rattle.sqlite.specs.declared.types.Value.{Value}
pub use Rattle.sqlite.specs.declared.types.Value.TheVariants.{Blob, Int, Null, Text}
pub use Rattle.sqlite_catalog.proofs.ListFacts.{filter_all}
pub use Rattle.sqlite_keyed.proofs.ListLemmas.{all-append, all_map, all_weaker, ascending-filter, ascending-map, ascending_weaker, map-map, none_from_any}
pub use Rattle.sqlite_rules.proofs.ListLemmas.{all_from, all_has, contains_had, has_contained, has_filtered, has_kept, has_right, some_from, some_has}
pub use Rattle.sqlite_rules.proofs.PlaceLemmas.{given, tied_same}
pub use Rattle.sqlite_rules.proofs.ProbeLemmas.{has_mapped, mapped_has}
pub use Rattle.sqlite_rules.proofs.TableLemmas.{int_is, put_all_adds, put_all_has, put_all_keeps}
pub use Rattle.sqlite_rules.specs.Calls.{ids_of}
pub use Rattle.sqlite_rules.specs.Lists.{Has}
pub use Rattle.sqlite_schema.specs.Rules.{agree, are_present, are_typed, clashes, differ, is_of, Keeps, passes, suits}
pub use Rattle.sqlite_schema.specs.declared.program.Program.{Program}
pub use Rattle.sqlite_sql.specs.Program.{overlay}
pub use Rattle.sqlite_sql.specs.declared.ops.BinaryOp.TheVariants.{Compare}
pub use Rattle.sqlite_sql.specs.declared.ops.CompareOp.TheVariants.{Eq}
pub use Rattle.sqlite_trees.proofs.ListLemmas.{filter_same}
pub use Rattle.sqlite_trees.specs.View.{is_int, IsShaped}
pub use Rattle.sqlite_value.proofs.OrderLemmas.{value_cmp-Blob, value_cmp-Int, value_cmp-Text, value_cmp_total}
pub use Rattle.sqlite_value.specs.declared.keys.Key.{Key}
pub use Rattle.std.proofs.Common.{◌&&◌, ◌+◌, ◌++◌, ◌+ℤ◌, ◌/◌, ◌<ℤ◌, ◌==◌, [], ap, append-nil, append_assoc, ap₂, arith, Bool, bytes_eq, cond, drop, Equal, Err, false, filter, find, flat_map, fold, Greater, IfOk, if◌then◌else◌, inl, inr, IsTrue, length, Less, List, map, negsuc, None, not, Ok, OnOk, Option, option_map, Ordering, pos, refl, Result, slice_get, slice_index_or, Some, subst, subst₂, suc, sym, take, true, unwrap_or, zero, ◌||◌, ℕ, ℤ, ◌∙◌, ◌∷◌, ◌≡◌, ◌≢◌, ◌⊎◌}
pub use Rattle.std.proofs.Math.Bool.{and-true}
pub use Rattle.std.proofs.lemmas.Bool.{and_parts, cases_Bool, cases_lt, not-true}
pub use Rattle.std.proofs.lemmas.Cmp.{int_cmp_total, tied_itself}
pub use Rattle.std.specs.List.{AllByRecursion, list_all, list_any}
pub use Rattle.std.specs.Ordering.{int_cmp, int_eq, is_eq, is_ne, ordering_reverse}
