-- The names that several proofs of this crate cite, passed on from one place. Declares nothing.
pub use Rattle.fault_words.specs.PathNotes.{differs_by_form, other_form}
pub use Rattle.fault_words.specs.PolicyReasons.{bad_caller, first_lines, is_toml, line_at, line_words, no_text, no_toml, numbered_key, toml, tree_in, unknown_key, unknown_rule_key, value_at, value_key}
pub use Rattle.office_core.specs.Policies.{elements, entries}
pub use Rattle.std.proofs.Common.{◌++◌, ◌-◌, ◌<◌, ◌==◌, [], ap, append-nil, append_assoc, arith, Bool, bytes_eq, chars, codes, cond, drop, encode_utf8_all, false, find, if◌then◌else◌, is_some, IsSome, IsUtf8, length, List, map, nat_lt, None, Option, option_and_then, option_map, refl, rules, slice_get, slice_index_or, Some, subst, suc, sym, take, true, zero, ℕ, ◌∙◌, ◌∷◌, ◌≡◌, ◌≢◌, ◌≤◌}
pub use Rattle.std.proofs.Output.{has_written_of_eq}
pub use Rattle.std.proofs.lemmas.Bool.{false_from_ne_true, false≢true, true≢false}
pub use Rattle.std.proofs.lemmas.Bool.Decides.{nat_tests}
pub use Rattle.std.proofs.lemmas.Option.{slice_get-get_or, slice_get-map, slice_get_past}
pub use Rattle.std.proofs.lemmas.Str.{encodes_same, is_utf8-from_IsUtf8, IsUtf8-from_is_utf8}
pub use Rattle.toml.specs.Data.{Data, Members, no_members}
pub use Rattle.toml.specs.Parse.{parse_document}
pub use Rattle.toml.specs.View.{items_of, items_view, members_view, table_view, view}
pub use Rattle.toml.specs.declared.value.Value.{Value}
