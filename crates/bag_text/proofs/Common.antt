-- The names that several proofs of this crate cite, passed on from one place. Declares nothing.
pub use Rattle.bag_text.specs.Answers.{◌>>=◌, Answers, FailsAs, Gives}
pub use Rattle.bag_text.specs.BagInfo.{AreGroups, begins_blank, filled_lines, InfoFaultIs, is_colon, IsPairLine, Pair, SaysInfo}
pub use Rattle.bag_text.specs.BagList.{file_fault, FileFault, IsFront, list_fault, ListFault}
unfoldable pub use Rattle.bag_text.specs.BagList.{fault_from}
pub use Rattle.bag_text.specs.Declaration.{after_label, declaration_fault, Declares, encoding_label, is_supported, is_utf8_name, is_version_text, IsLabelled, version_label, version_text}
pub use Rattle.bag_text.specs.DeclarationReading.{declaration_of, encoding_fault, exactly_two, version_declared}
pub use Rattle.bag_text.specs.InfoReading.{AreMarked, colon_cut, extend_last, has_line_feed, IsOwnedIfContinued, CodePair, label_of, named_info_fault, pair_in, pair_of, pairs_in, pairs_of, value_of}
unfoldable pub use Rattle.bag_text.specs.InfoReading.{add_info_line, info_of, pairs_from}
pub use Rattle.bag_text.specs.Lines.{AreLines, CR, CRLF, end_bytes, EndsBefore, is_end, LF}
unfoldable pub use Rattle.bag_text.specs.Lines.{lines}
pub use Rattle.bag_text.specs.Manifest.{as_manifest, AscendingPaths, checksum_of, coded_character, leading_escape, has_coded, IsEntry, IsManifest, IsNoGoodPath, IsReached, IsSoundBefore, itself, LineIs, LineLists, Lists, ListsOn, ManifestFault, nothing, path_text, size_of, Spells, sum_text, triple}
unfoldable pub use Rattle.bag_text.specs.Manifest.{decode}
pub use Rattle.bag_text.specs.ManifestReading.{checksum_in, Entries, entries_in, entry_in, good_of, HasEntry, HasPath, is_owned, is_path_listed, listing_at, named_line_fault, next_char, path_spelled, paths_of}
unfoldable pub use Rattle.bag_text.specs.ManifestReading.{add_line_of, entries_of, entry_of, manifest_of}
pub use Rattle.bag_text.specs.Paths.{comes_before, GoodPath, is_dots_of, is_good, lies_under, max_path, path_fault, path_has, segments}
pub use Rattle.bag_text.specs.Text.{AreBlanks, begins_with, drop_last_blanks, has_mark, is_blank, skip_blanks, trim_blanks}
pub use Rattle.bag_text.specs.TransferFaults.{BeginsWith, EntryFault, FaultIs, GoOn, HasSizes, IsEndOrHeader, IsHeaded, IsOpening, IsProperBeginning, last_path, PositionFault}
pub use Rattle.bag_text.specs.TransferForm.{Ascends, Clashes, clashes, content_at, ending, entry, File, Fits, Head, header, IsBag, max_content, max_files, opening, set_text}
pub use Rattle.bag_text.specs.TransferReading.{after_opening, End, Entry, file_of, files_of, IsPositionOf, named_set_fault, EndOrHead, result_at}
unfoldable pub use Rattle.bag_text.specs.TransferReading.{digits_at, entry_at, file_at, files_at, header_at, literal_at, number_at, end_or_head_at, set_of}
pub use Rattle.bag_text.specs.declared.bag_info.InfoFault.{InfoFault}
pub use Rattle.bag_text.specs.declared.bag_info.InfoFault.TheVariants.{EmptyLabel, NoColon, StrayContinuation}
pub use Rattle.bag_text.specs.declared.checksum.Algorithm.{Algorithm}
pub use Rattle.bag_text.specs.declared.checksum.Algorithm.TheVariants.{Sha256, Sha512}
pub use Rattle.bag_text.specs.declared.checksum.Checksum.{Checksum}
pub use Rattle.bag_text.specs.declared.declaration.Version.{Version}
pub use Rattle.bag_text.specs.declared.declaration.Version.TheVariants.{V0_97, V1_0}
pub use Rattle.bag_text.specs.declared.header.Flaw.{Flaw}
pub use Rattle.bag_text.specs.declared.header.Flaw.TheVariants.{Bad, Short}
pub use Rattle.bag_text.specs.declared.listing.LineFault.{LineFault}
pub use Rattle.bag_text.specs.declared.listing.LineFault.TheVariants.{BadChecksum, ByteOrderMark, ListedTwice, NoPath, NotUtf8}
pub use Rattle.bag_text.specs.declared.listing.Listing.{Listing}
pub use Rattle.bag_text.specs.declared.path.PathFault.{PathFault}
pub use Rattle.bag_text.specs.declared.set_fault.SetFault.{SetFault}
pub use Rattle.bag_text.specs.declared.set_fault.SetFault.TheVariants.{BadEntry, BadOpening, BadPath, Memory, OutOfOrder, PathClash, TooManyFiles, TrailingBytes, Truncated}
pub use Rattle.hex.specs.Hex.{decode_sized, digit_or_error, hex_digit_value}
unfoldable pub use Rattle.hex.specs.Hex.{decode_pairs}
pub use Rattle.hex.specs.declared.error.FromHexError.{FromHexError}
pub use Rattle.std.proofs.Common.{◌%◌, ◌&&◌, ◌*◌, ◌+◌, ◌++◌, ◌-◌, ◌/◌, ◌<◌, ◌==◌, [], ◌^◌, ap, append_assoc, arith, Bool, Bor, bytes_eq, codes, cond, Contains, decimal, drop, eqb, Equal, Err, false, filter, find, get_or, Global, Greater, IfErr, IfOk, IfSome, if◌then◌else◌, inl, inr, is_none, is_ok, is_some, IsSome, IsUtf8, leb, length, length-append, Less, List, lit<, lit≤, ltb, map, MatchResult, None, not, Ok, ok_or, one-add, Option, option_and_then, option_copied, option_map, Ordering, refl, Result, rules, slice_get, Some, subst, suc, sym, take, true, unwrap_or, zero, ◌||◌, ℕ, ◌↔◌, ◌∙◌, ◌∷◌, ◌≡◌, ◌≢◌, ◌≤◌, ◌⊎◌}
pub use Rattle.std.proofs.Math.Seq.{drop-append-add, drop-nil, get_or-append_seam, take-append_seam, take-length}
pub use Rattle.std.proofs.lemmas.Bool.{and_from, and_parts, and_right, cases_Bool, cases_lt, cases_order, cond_both, eqb-false, eqb-true, false_from_ne_true, false≢true, le-ltb, lt-ltb, ltb-false, ltb-true, not-false, not-true, or_cases, or_from, or_parts, or_right, true_from_ne_false, true≢false}
pub use Rattle.std.proofs.lemmas.Bool.Decides.{Decides-eqb, nat_tests}
pub use Rattle.std.proofs.lemmas.Iterator.{YieldsList-from_slice}
pub use Rattle.std.proofs.lemmas.Iterator.Search.{any_from_yields_List, position_from_yields_List}
pub use Rattle.std.proofs.lemmas.Iterator.Splits.{YieldsList-from_slice_split}
pub use Rattle.std.proofs.lemmas.List.{append-nil, at_drop_all, drop_at, drop_more, length-drop, length-take, length_push, map_push, nil_from_length, take-append-drop, take_all, take_at, take_more}
pub use Rattle.std.proofs.lemmas.List.Folds.{list_any-append, list_any_at}
pub use Rattle.std.proofs.lemmas.List.Sorted.{IsPartitionPoint-from_clause}
pub use Rattle.std.proofs.lemmas.List.Sums.{prefix_len-le-length}
pub use Rattle.std.proofs.lemmas.Map.Text.{is_eq-slice_cmp}
pub use Rattle.std.proofs.lemmas.Option.{get_or_from_slice_get, same_Some, slice_get_read, slice_get_within}
pub use Rattle.std.proofs.lemmas.Result.{err_from_is_err_and}
pub use Rattle.std.proofs.lemmas.Slice.Eq.{bytes_eq-Decides, starts_is, strip_prefix_is}
pub use Rattle.std.proofs.lemmas.Str.{is_utf8-from_IsUtf8, IsCharBoundary-after_ascii, IsUtf8-drop, IsUtf8-from_is_utf8, IsUtf8-take}
pub use Rattle.std.specs.BTreeMap.{insert_entry, is_at}
pub use Rattle.std.specs.Char.{is_ascii_digit, to_ascii_lowercase}
pub use Rattle.std.specs.Cmp.Lexicographic.{nat_list_cmp_total, slice_cmp}
pub use Rattle.std.specs.Cow.{cow_str_bytes, IsBorrowedStr}
pub use Rattle.std.specs.List.{AllByRecursion, AllWithin, flat_map, HoldsAt, list_all, list_any, onto_first, position, position_or_len, starts_with}
pub use Rattle.std.specs.Map.{lookup}
pub use Rattle.std.specs.Option.{IsNone, MatchOption, option_map_or, option_or, option_to_list}
pub use Rattle.std.specs.Ordering.{is_eq, is_lt, nat_cmp, ordering_reverse, ordering_then}
pub use Rattle.std.specs.Result.{result_ok}
pub use Rattle.std.specs.Str.{IsCharBoundary, IsValidUpTo, valid_up_to}
unfoldable pub use Rattle.std.specs.Str.{chars, is_utf8}
pub use Rattle.std.specs.declared.borrow.CowStr.{CowStr}
