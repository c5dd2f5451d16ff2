-- The lemmas of this crate on which several others rest, passed on from one place. Declares nothing.
pub use Rattle.bag_check.proofs.BagLemmas.{ascends_up, at, bag_ascends, content_found, content_there, has_kept, has_path_is, is_payload_again, is_payload_is, kept_ascends, kept_has, no_content, no_path_is, one_content, path_of_file, paths}
pub use Rattle.bag_check.proofs.Common.{named_by, named_or_fault, ◌&&◌, ◌*◌, ◌+◌, ◌++◌, ◌<◌, ◌>>=◌, [], after_space, again_onto, Algorithm, algorithm_named, AllByRecursion, and_from, and_parts, any_has, ap, append-nil, append_assoc, are_others, AreBlanks, AreRightOf, arith, AscendingPaths, asks_for, before_chain, after_digits, after_stop, bind_err, bind_ok, Bool, Bor, Breaks, breaks_at, bytes_eq, bytes_eq-Decides, cases_Bool, cause_or, checksum_of, ChecksumWrong, codes, comes_before, concerns, cond, Contains, contains_has, content_at, count_by, counts_of, cow_str_bytes, decimal, Declaration, declaration_of, declaration_path, declared_again, declared_by, DeclaresVersion, DeclFault, digest, digests_of, digit_len, digits_in, drop, drop_more, Entries, entries_in, Entry, entry_in, eqb, eqb-false, eqb-true, Err, err_if, FailsAs, false, false_from_ne_true, false≢true, Fault, fault_is_refused, fetch_path, FetchNotSupported, File, files_to_list, files_of, filter, find, first_in, first_listed, first_unlisted, FirstFault, Fits, fronted, Has, has_contains, has_map, has_path, HasEntry, HasFile, HasManifest, HasOxum, Holds, info_fault, info_of, info_path, info_said, InfoFault, InfoIsRight, InfoText, inl, inr, is_about_files, is_ascii_digit, is_blank, is_declared, is_escaped, is_kind, is_owned, is_oxum, is_path_listed, is_payload, is_some, is_wrong, IsBag, IsBroken, IsManifestName, IsNumber, IsPayload, judge, obeys_contents, obeys_info, CodePair, obeyed_by, Kind, length, length-map, LineFault, List, list_all, list_any, Listed, listed_or_fault, listing_rules, listings_in, Lists, ListsAt, ListsSha256, ltb-false, ltb-true, Manifest, manifest_count, manifest_in, manifest_is_read, manifest_name, manifest_of, ManifestText, map, matches_of, max_content, Named, named_of, NamesCounts, nat_cmp, nat_le, nat_lt, nat_tests, ne_eqb, never_both, no_fetch, NoDeclaration, None, none_has, NoPayloadManifest, not, not-false, not-true, not_from_false, nothing_onto, number_at_end, number_from, number_or, number_spelled, Ok, ok_unless, one-add, Option, option_and_then, option_map, or_cases, or_declaration, or_breach, or_right, oxum_with_files, OxumForm, oxums_obeyed, oxums_of, OxumTwice, OxumWrong, Pair, pair_in, pairs_of, path_in, Payload, payload_bytes, payload_files, payload_of, BreachBefore, prefix_len-le-length, printed_byte, printed_text, read_is_manifest, refl, refused_again, refused_is_fault, Report, report_of, Result, Rule, rule_number, same_err, same_ok, same_Some, SaysInfo, Sha256, sha256, Sha512, slice_index_or, Some, some_if, some_payload, Applies, subst, suc, sum-map, sum_by, sum_by-cons, sym, Tag, take-append-drop, text_or, true, true_from_ne_false, UnsupportedAlgorithm, Valid, Version, version_declared, with_bytes, with_manifest, with_rest, word_of, zero, ◌||◌, ℕ, ◌↔◌, ◌∙◌, ◌∷◌, ◌≡◌, ◌≢◌, ◌≤◌, ◌⊎◌}
unfoldable pub use Rattle.bag_check.proofs.Common.{digits, first_breach, obeys, listings_of, manifests_in, percent_encode}
pub use Rattle.bag_check.proofs.FaultLemmas.{at_1, at_13, at_14, at_15, at_16, at_2, at_3, at_4, at_5, at_6, at_rule, Earlier, IsLeast, named_first, none_below_1, none_earlier, none_more, NoneAt, NoneBelow, number_range, one_first_fault, one_manifest, one_version}
pub use Rattle.bag_check.proofs.ManifestLemmas.{all_read, AreRead, as_listed, as_named, first_refused, first_unsupported, Found, found_all, IsFirstRefused, IsFirstUnsupported, list_names, names, no_payload_manifest, payload_manifest, read_of}
pub use Rattle.bag_check.proofs.NameLemmas.{kind_again, kind_is, manifest_of_again, manifest_of_is, one_algorithm}
pub use Rattle.bag_check.proofs.OrderLemmas.{apart, Ascending, ascending_rest, find_is_least, IsLeastPath, later_path, Up}
pub use Rattle.bag_check.proofs.OxumLemmas.{blanks_stop, info_is_read, one_info, one_oxum, oxum_has_form, oxum_is_right, same_run, Stops}
