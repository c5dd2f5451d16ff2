-- The lemmas of this crate that several proofs of its functions cite, passed on from one place. Declares nothing.
pub use Rattle.fault_words.proofs.Common.{◌++◌, ap, append-nil, arith, drop, false, first_lines, is_toml, is_utf8-from_IsUtf8, length, line_at, line_words, no_text, no_toml, None, parse_document, refl, rules, sym, table_view, take, toml, ◌∙◌, ◌≡◌, ◌≤◌}
pub use Rattle.fault_words.proofs.TomlLines.{broken_lines_are_some, empty_is_toml, first_lines-all, first_lines-zero, no_text_test, no_tree, text_is_no_toml, text_is_toml, tree_of_text}
