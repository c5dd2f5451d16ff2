-- The names that several proofs of this crate cite, passed on from one place. Declares nothing.
pub use Rattle.bag_check.specs.Answers.{after_space, cause_or, listed_seen, manifest_in, named_fault, named_seen, NamesFirst, number_or, path_in, report_seen, text_or}
pub use Rattle.bag_check.specs.Contents.{alg_after, algorithm_named, declaration_path, DeclaresVersion, digest, fetch_path, HasFile, HasManifest, Holds, info_path, is_found_of, is_kind, is_manifest_of, is_payload, IsManifestName, IsPayload, IsTop, ListsAt, manifest_name, or_tag, payload_of, stem, word_of}
pub use Rattle.bag_check.specs.Digests.{AreRightOf, digests_of, ListsSha256}
pub use Rattle.bag_check.specs.FaultTexts.{fault_text, is_escaped, printed_byte, printed_text}
pub use Rattle.bag_check.specs.Faults.{Breaks, ComesFirst, Declaration, Fault, fault_name, fault_number, fault_path, FetchNotSupported, FirstFault, HasOxum, InfoText, IsBroken, ManifestText, NoDeclaration, NoPayloadManifest, OxumForm, OxumTwice, OxumWrong, BreachBefore, rule_number, Applies, UnsupportedAlgorithm}
pub use Rattle.bag_check.specs.Fixity.{matches_of}
pub use Rattle.bag_check.specs.Judging.{are_others, asks_for, breaks_at, concerns, declared_by, files_to_list, first_in, first_listed, first_unlisted, has_path, is_about_files, is_wrong, judge, obeys_contents, obeys_info, obeyed_by, Listed, listed_or_fault, listing_rules, listings_in, Named, named_by, named_of, named_or_fault, no_fetch, or_declaration, or_breach, oxums_obeyed, some_payload, version_declared, with_manifest}
unfoldable pub use Rattle.bag_check.specs.Judging.{first_breach, obeys, listings_of, manifests_in}
pub use Rattle.bag_check.specs.OxumReading.{after_digits, after_stop, counts_of, digit_len, digits_in, number_at_end, number_spelled, oxum_with_files, with_bytes, with_rest}
pub use Rattle.bag_check.specs.Validity.{InfoIsRight, is_oxum, IsNumber, manifest_count, NamesCounts, number_from, oxums_of, payload_bytes, payload_files, Report, report_of, Valid}
pub use Rattle.bag_check.specs.declared.names.Kind.{Kind}
pub use Rattle.bag_check.specs.declared.names.Kind.TheVariants.{Payload, Tag}
pub use Rattle.bag_check.specs.declared.rule.Rule.{Rule}
pub use Rattle.bag_check.specs.declared.rule.Rule.TheVariants.{ChecksumWrong, Missing, OutsidePayload}
pub use Rattle.bag_text.proofs.DeclarationLemmas.{declared_again, is_declared, refused_again}
pub use Rattle.bag_text.proofs.ElementLemmas.{any_has, contains_has, filter_has, Has, has_contains, has_filter, has_map, map_has, none_has}
pub use Rattle.bag_text.proofs.InfoLemmas.{info_fault, info_said}
pub use Rattle.bag_text.proofs.ManifestLaws.{fault_is_refused, manifest_is_read, read_is_manifest, refused_is_fault}
pub use Rattle.bag_text.proofs.OrderLemmas.{before_chain, less, path_cmp}
pub use Rattle.bag_text.proofs.ResultLemmas.{again_onto, bind_err, bind_ok, err_if, err_through, err_unless, fails_on, fronted, never_both, no_value, nothing_onto, ok_if, ok_unless, same_err, same_ok, some_if}
pub use Rattle.bag_text.specs.Answers.{◌>>=◌, FailsAs, Gives}
pub use Rattle.bag_text.specs.BagInfo.{Pair, SaysInfo}
pub use Rattle.bag_text.specs.DeclarationReading.{declaration_of}
pub use Rattle.bag_text.specs.InfoReading.{info_of, CodePair, pair_in, pairs_of}
pub use Rattle.bag_text.specs.Manifest.{AscendingPaths, checksum_of, Lists}
pub use Rattle.bag_text.specs.ManifestReading.{Entries, entries_in, Entry, entry_in, HasEntry, is_owned, is_path_listed, manifest_of}
pub use Rattle.bag_text.specs.Paths.{comes_before}
pub use Rattle.bag_text.specs.Text.{AreBlanks, is_blank}
pub use Rattle.bag_text.specs.TransferForm.{Ascends, content_at, File, Fits, IsBag, max_content}
pub use Rattle.bag_text.specs.TransferReading.{file_of, files_of}
pub use Rattle.bag_text.specs.declared.bag_info.InfoFault.{InfoFault}
pub use Rattle.bag_text.specs.declared.checksum.Algorithm.{Algorithm}
pub use Rattle.bag_text.specs.declared.checksum.Algorithm.TheVariants.{Sha256, Sha512}
pub use Rattle.bag_text.specs.declared.declaration.DeclFault.{DeclFault}
pub use Rattle.bag_text.specs.declared.declaration.Version.{Version}
pub use Rattle.bag_text.specs.declared.listing.LineFault.{LineFault}
pub use Rattle.bag_text.specs.declared.listing.Manifest.{Manifest}
unfoldable pub use Rattle.percent_encoding.specs.Percent.{percent_encode, percent_encode_byte}
pub use Rattle.sha2.specs.Sha256.{sha256}
pub use Rattle.std.proofs.Common.{◌&&◌, ◌*◌, ◌+◌, ◌++◌, ◌-◌, ◌<◌, [], ◌^◌, ap, append_assoc, arith, Bool, Bor, bytes_eq, codes, cond, Contains, decimal, drop, eqb, Err, false, filter, find, IfErr, IfOk, inl, inr, is_some, IsErrAnd, length, length-append, List, map, MatchResult, nat_le, nat_lt, None, not, Ok, one-add, Option, option_and_then, option_map, refl, Result, rules, slice_index_or, Some, subst, suc, sum_by, sym, take, true, unwrap_or, zero, ◌||◌, ℕ, ◌↔◌, ◌∙◌, ◌∷◌, ◌≡◌, ◌≢◌, ◌≤◌, ◌⊎◌}
pub use Rattle.std.proofs.lemmas.Bool.{and_from, and_parts, cases_Bool, cases_order, eqb-false, eqb-true, false_from_ne_true, false≢true, lt-ltb, ltb-false, ltb-true, ne_eqb, not-false, not-true, not_from_false, or_cases, or_right, true_from_ne_false}
pub use Rattle.std.proofs.lemmas.Bool.Decides.{Decides-eqb, nat_tests}
pub use Rattle.std.proofs.lemmas.Iterator.{YieldsList-from_slice}
pub use Rattle.std.proofs.lemmas.Iterator.Search.{any_from_yields_List, position_from_yields_List}
pub use Rattle.std.proofs.lemmas.List.{append-nil, drop_all, drop_at, drop_more, length-drop, length-map, length-take-le, map_push, take-append-drop, take-take, take_at}
pub use Rattle.std.proofs.lemmas.List.Sums.{prefix_len-le-length, sum-map, sum_by-cons}
pub use Rattle.std.proofs.lemmas.Option.{same_Some}
pub use Rattle.std.proofs.lemmas.Result.{err_from_is_err_and}
pub use Rattle.std.proofs.lemmas.Slice.Eq.{bytes_eq-Decides, ends_is, starts_is}
pub use Rattle.std.specs.Char.{is_ascii_digit}
pub use Rattle.std.specs.Cow.{cow_str_bytes}
unfoldable pub use Rattle.std.specs.Fmt.{digits}
pub use Rattle.std.specs.List.{AllByRecursion, count_by, ends_with, list_all, list_any, starts_with}
pub use Rattle.std.specs.Ordering.{is_eq, is_lt, nat_cmp, ordering_reverse}
