-- The names that several proofs of this crate cite, passed on from one place. Declares nothing.
pub use Rattle.desk_heads.specs.Bounds.{max_body, max_head}
pub use Rattle.desk_heads.specs.Ends.{empty_line_length, end_after_line_feed, EndsWithEmptyLine, HasNoHead, head_end_found, IsHeadEnd, or_later}
unfoldable pub use Rattle.desk_heads.specs.Ends.{head_at, head_end}
pub use Rattle.desk_heads.specs.Fields.{fields_of, Occurrence, occurrence_of, once, values_among, values_of}
pub use Rattle.desk_heads.specs.declared.head_end.HeadEnd.TheVariants.{Found, Short, TooLarge}
pub use Rattle.office_core.specs.FirstOf.{answer_if, first_some}
pub use Rattle.office_core.specs.Names.{is_name, is_name_byte, IsName}
pub use Rattle.std.proofs.Common.{◌+◌, ◌++◌, ◌-◌, ◌<◌, ◌==◌, [], ◌^◌, add-one, ap, arith, Bool, codes, cond, drop, drop-cons, Err, false, get_or, IfSome, if◌then◌else◌, inl, inr, IsUtf8, length, length-append, length-take-le, List, map, min, nat_lt, None, Ok, Option, option_map, refl, Result, Some, subst, suc, sym, take, take_all, true, zero, ℕ, ◌∙◌, ◌∷◌, ◌≡◌, ◌≢◌, ◌≤◌, ◌⊎◌}
pub use Rattle.std.proofs.lemmas.Bool.{cases_lt, eqb-true}
pub use Rattle.std.proofs.lemmas.Bool.Decides.{nat_tests}
pub use Rattle.std.proofs.lemmas.Grind.{common_steps}
pub use Rattle.std.proofs.lemmas.List.{append-nil, length-take, take-append-drop, take-append-le, take_rest}
pub use Rattle.std.proofs.lemmas.List.Elements.{All-weaker}
pub use Rattle.std.proofs.lemmas.List.Sums.{AllPass-from_list_all, list_all-from_AllPass}
pub use Rattle.std.specs.Char.{is_ascii_digit, IsAsciiDigit}
pub use Rattle.std.specs.Io.KnownBytes.{Consumes}
pub use Rattle.std.specs.List.{list_all}
pub use Rattle.std.specs.Str.Parse.{digits_value}
