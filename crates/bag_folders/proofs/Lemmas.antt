-- The lemmas of this crate that several proofs of its functions cite, passed on from one place. Declares nothing.
pub use Rattle.bag_folders.proofs.Common.{◌++◌, ◌<◌, [], AllFilesOf, AllZip, ap, append-nil, Bor, Entry, err_from_is_err_and, false, file_listed, files_of, folder_of, HasNoForm, is_any_declared, IsToldOf, IsUnpackedFrom, length, List, Listed, map, map-id, map_push, max_form, odd_in, refl, rules, subst, sum_by, sym, true, ℕ, ◌∙◌, ◌∷◌, ◌≡◌}
pub use Rattle.bag_folders.proofs.GrowingLemmas.{filter_map_more, filter_map_next, first_next, zip_next}
pub use Rattle.bag_folders.proofs.MakingLemmas.{all_folders, folder_found, needs_from, needs_none}
pub use Rattle.bag_folders.proofs.PackLemmas.{failed_under, form_under, is_packed_of, plan_refused, plan_under, some_packed, some_refused}
pub use Rattle.bag_folders.proofs.SizeLemmas.{front_len, is_bag, judged_err, judged_long, judged_ok, judged_short, longer_form, no_form_listed}
pub use Rattle.bag_folders.proofs.UnpackLemmas.{failed_stops, judged_from, made_from, of_file, of_none, some_unpacked, some_unreadable, unmade_from}
