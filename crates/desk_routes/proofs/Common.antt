-- The names that several proofs of this crate cite, passed on from one place. Declares nothing.
pub use Rattle.desk_routes.specs.PathReading.{after_prefix, all_of, audit, bag, by_part, class, collection, cut, deposit, deposits, due, file, file_path_of, hold, holds, holds_of_deposit, is_number, last_part, name_of, no_more, nothing_more, number_of, Parts, parts_of, resource_by_parts, resource_named, under_deposit, under_deposits, with_byte}
pub use Rattle.desk_routes.specs.Resources.{IsResource, IsShortNumber, path_of, pattern_of, SpellsResource}
pub use Rattle.desk_routes.specs.Rows.{resource_by_texts, row_of, Texts, the_rows}
pub use Rattle.desk_routes.specs.declared.resource.PathPattern.{PathPattern}
pub use Rattle.desk_routes.specs.declared.resource.Resource.{Resource}
pub use Rattle.matchit.proofs.SeekLemmas.{first-prefix, or_else-none, own-append, own-prepend, param_step-empty, prepend-nil, seek-empty, seek-lit, step-append, step-hit, step-miss}
pub use Rattle.matchit.specs.Level.{AllSegment, AreSuffixes, IsText}
pub use Rattle.matchit.specs.Params.{after_token, AllText, part_of, walk, wild_from, wild_stop}
pub use Rattle.matchit.specs.Router.{map_key, rename, RouteOf}
pub use Rattle.matchit.specs.Rows.{catch_all_token, ends, param_token, prepend, Rows, rows_of, RowsOf, Seen}
pub use Rattle.matchit.specs.Seek.{after_param, cuts, first, has_slash, longest_suffix, or_else, own, param_step, segment, step}
unfoldable pub use Rattle.matchit.specs.Seek.{seek}
pub use Rattle.std.proofs.Common.{◌&&◌, ◌+◌, ◌++◌, ◌-◌, ◌<◌, ◌==◌, [], ◌^◌, ap, append-nil, append_assoc, arith, Bool, bytes_eq, codes, cond, Contains, decimal, drop, Err, false, get_or, inl, inr, IsUtf8, leb, length, length-append, List, ltb, map, nat_eq, None, Ok, ok_or, Option, option_and_then, option_map, refl, Result, rules, Some, subst, suc, sym, take, true, zero, ℕ, ◌∙◌, ◌∷◌, ◌≡◌, ◌≢◌, ◌≤◌, ◌⊎◌}
pub use Rattle.std.proofs.Math.Seq.{drop-append-add, drop-append_seam, get_or-append_seam, take-append_seam}
pub use Rattle.std.proofs.lemmas.Bool.{and_parts, and_right}
pub use Rattle.std.proofs.lemmas.Bool.Decides.{nat_tests}
pub use Rattle.std.proofs.lemmas.List.{drop_all, take-append-drop, take_all}
pub use Rattle.std.specs.Cmp.Lexicographic.{bytes_decides, pointwise, slice_cmp}
pub use Rattle.std.specs.List.{after_first, AllByRecursion, before_first, list_all, position_or_len, starts_with}
pub use Rattle.std.specs.Option.{option_or}
