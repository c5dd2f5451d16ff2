-- The names that several proofs of this crate cite, passed on from one place. Declares nothing.
pub use Rattle.bag_check.specs.Contents.{declaration_path, is_payload}
pub use Rattle.bag_folders.specs.Listing.{AreListedAt, file_listed, IsToldOf, odd_in}
pub use Rattle.bag_folders.specs.Loading.{AppendsEntry, AppendsSome}
pub use Rattle.bag_folders.specs.Packing.{AllFilesOf, AreFilesOf, AreInPathOrder, HasNoForm, HasNoFormOf, is_any_declared, is_declared, IsFoundUnder, IsNamedAs, IsPacked, IsPackedOf, IsRefusedOf, IsRefusedUnder, IsUnpackable, listed_paths, MayBeRefused, pack_failed, path_at_fault, paths_found}
pub use Rattle.bag_folders.specs.Sizes.{emptied, is_too_long, IsFaultFound, with_long}
pub use Rattle.bag_folders.specs.Unpacking.{AreFoundAgain, CanStop, file_outline, folders_of, IsOfForm, IsUnpacked, IsUnpackedFrom, IsUnpackedFromFile, IsUnreadable, judged_part, listed_outline, MakesFiles, MayBeUnreadable, needs_data, unpack_failed}
unfoldable pub use Rattle.bag_folders.specs.Unpacking.{folder_of}
pub use Rattle.bag_folders.specs.declared.failed.Failed.{Failed}
pub use Rattle.bag_folders.specs.declared.listed.Entry.{Entry}
pub use Rattle.bag_folders.specs.declared.listed.Listed.{Listed}
pub use Rattle.bag_folders.specs.declared.pack_fault.PackFault.{PackFault}
pub use Rattle.bag_text.specs.Paths.{comes_before, is_good, lies_under}
pub use Rattle.bag_text.specs.TransferForm.{Ascends, clashes, ending, entry, File, header, IsBag, IsFormOf, max_content, max_files, max_form, opening, set_text}
pub use Rattle.bag_text.specs.TransferReading.{files_of}
pub use Rattle.std.proofs.Common.{◌&&◌, ◌+◌, ◌++◌, ◌<◌, [], ap, append-nil, append_assoc, ap₂, arith, Bool, Bor, bytes_eq, codes, cond, drop, Err, false, filter_map, flat_map, get_or, IfErr, IfOk, IfSome, inl, inr, IsErr, leb, length, length-drop, List, ltb, map, map-id, MatchOption, ne_eqb, None, not, Ok, Option, option_map, refl, replicate, Result, rules, slice_get, Some, string_bytes, subst, suc, sym, take, take-append-drop, true, zero, ◌||◌, ℕ, ◌∙◌, ◌∷◌, ◌≡◌, ◌≢◌, ◌≤◌}
pub use Rattle.std.proofs.lemmas.Cmp.{nat_list_cmp_total}
pub use Rattle.std.proofs.lemmas.List.{length-append, length-take-le, map_push, take-append-le, take_more}
pub use Rattle.std.proofs.lemmas.List.Concat.{flat_map-append}
pub use Rattle.std.proofs.lemmas.List.Sorted.{answers_always, IsPermutation-map, IsPermutation-trans, sorted_far, sum_by-IsPermutation}
pub use Rattle.std.proofs.lemmas.List.Sums.{sum_by-cons}
pub use Rattle.std.proofs.lemmas.Result.{err_from_is_err_and}
pub use Rattle.std.specs.List.{AllByRecursion, AllZip, cons_option, list_any, position_from, sum_by}
pub use Rattle.std.specs.Option.{option_or}
