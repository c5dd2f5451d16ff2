-- The lemmas of this crate on which several others rest, passed on from one place. Declares nothing.
pub use Rattle.bag_text.proofs.BlankLemmas.{drop_back, dropped, map_dropped, map_skipped, skip_front, skipped, trim_round, trimmed_round}
pub use Rattle.bag_text.proofs.Common.{◌%◌, ◌&&◌, ◌*◌, ◌+◌, ◌++◌, ◌-◌, ◌/◌, ◌<◌, ◌==◌, ◌>>=◌, [], after_label, after_opening, Algorithm, AllByRecursion, and_parts, Answers, ap, append-nil, append_assoc, AreBlanks, AreGroups, AreLines, AreMarked, arith, as_manifest, AscendingPaths, Ascends, at_drop_all, Bad, BadChecksum, BadEntry, BadOpening, BadPath, begins_blank, begins_with, BeginsWith, Bool, ByteOrderMark, bytes_eq, bytes_eq-Decides, cases_Bool, cases_lt, cases_order, Checksum, checksum_in, checksum_of, Clashes, clashes, coded_character, leading_escape, codes, colon_cut, comes_before, cond, Contains, cow_str_bytes, CowStr, CR, CRLF, Decides-eqb, decimal, declaration_fault, declaration_of, Declares, decode_sized, digit_or_error, drop, drop-append-add, drop-nil, drop_at, drop_last_blanks, drop_more, EmptyLabel, encoding_fault, encoding_label, End, end_bytes, ending, EndsBefore, Entries, entries_in, Entry, entry, entry_in, EntryFault, eqb, eqb-true, Err, exactly_two, extend_last, FailsAs, false, false_from_ne_true, false≢true, FaultIs, File, file_fault, FileFault, filled_lines, find, Fits, flat_map, Flaw, FromHexError, get_or, get_or-append_seam, get_or_from_slice_get, Gives, Global, good_of, GoodPath, GoOn, has_coded, has_line_feed, has_mark, HasEntry, HasPath, HasSizes, Head, header, header_at, hex_digit_value, IfErr, IfOk, IfSome, if◌then◌else◌, InfoFault, InfoFaultIs, inl, inr, insert_entry, is_at, is_blank, is_colon, is_end, is_eq, is_eq-slice_cmp, is_good, is_lt, is_none, is_ok, is_owned, is_path_listed, is_some, is_supported, is_utf8, is_utf8-from_IsUtf8, is_utf8_name, is_version_text, IsBag, IsBorrowedStr, IsCharBoundary, IsCharBoundary-after_ascii, IsEndOrHeader, IsEntry, IsFront, IsHeaded, IsLabelled, IsManifest, IsNoGoodPath, IsOpening, IsOwnedIfContinued, IsPairLine, IsProperBeginning, IsReached, IsSome, IsSoundBefore, IsUtf8, IsUtf8-drop, IsUtf8-from_is_utf8, IsUtf8-take, itself, CodePair, label_of, last_path, le-ltb, leb, length, length-append, length-drop, length-take, length_push, LF, lies_under, LineFault, LineIs, LineLists, lines, List, list_all, list_any, list_any-append, list_any_at, list_fault, ListedTwice, ListFault, Listing, listing_at, Lists, ListsOn, lit<, lit≤, lookup, lt-ltb, ltb, ltb-false, ltb-true, ManifestFault, map, map_push, MatchResult, max_content, max_files, max_path, Memory, named_info_fault, named_line_fault, named_set_fault, nat_cmp, nat_list_cmp_total, nat_tests, nil_from_length, NoColon, None, NoPath, not, not-false, not-true, nothing, NotUtf8, number_at, Ok, ok_or, one-add, opening, Option, option_and_then, option_map_or, option_or, option_to_list, or_cases, or_from, or_parts, or_right, Ordering, ordering_reverse, OutOfOrder, Pair, pair_in, pair_of, pairs_in, pairs_of, path_fault, path_spelled, path_text, PathClash, PathFault, paths_of, EndOrHead, PositionFault, position_or_len, prefix_len-le-length, refl, Result, result_at, same_Some, SaysInfo, segments, set_text, SetFault, Sha256, Sha512, Short, size_of, skip_blanks, slice_cmp, slice_get, slice_get_read, slice_get_within, Some, Spells, starts_is, StrayContinuation, subst, suc, sum_text, sym, take, take-append-drop, take-append_seam, take-length, take_at, to_ascii_lowercase, TooManyFiles, TrailingBytes, trim_blanks, triple, true, true_from_ne_false, true≢false, Truncated, V0_97, V1_0, value_of, Version, version_declared, version_label, version_text, zero, ◌||◌, ℕ, ◌↔◌, ◌∙◌, ◌∷◌, ◌≡◌, ◌≢◌, ◌≤◌, ◌⊎◌}
unfoldable pub use Rattle.bag_text.proofs.Common.{add_info_line, add_line_of, decode, decode_pairs, entries_of, entry_at, entry_of, fault_from, file_at, files_at, info_of, literal_at, manifest_of, pairs_from, end_or_head_at, set_of}
pub use Rattle.bag_text.proofs.ElementLemmas.{any_has, contains_has, Has, has_contains, has_map, map_has, slice_get-append, slice_get_last}
pub use Rattle.bag_text.proofs.HeaderLemmas.{after_word, file_word, header_again, header_ok, HeadFits, literal_again, literal_bad, literal_ends, literal_ok, spelled, steps}
pub use Rattle.bag_text.proofs.ManifestLemmas.{spelled_is_decoded, spells_decoded}
pub use Rattle.bag_text.proofs.NumberLemmas.{InBounds, number_again, number_bad, number_ok, number_short}
pub use Rattle.bag_text.proofs.PathLemmas.{good_again, good_read, no_fault, none_rows, not_empty, rows_none, without_fault}
pub use Rattle.bag_text.proofs.ResultLemmas.{again_onto, bind_ok, err_if, err_is, err_through, err_unless, fails_on, fronted, never_both, nothing_onto, ok_if, ok_is, ok_unless, same_err, same_ok, some_if}
