-- The lemmas of this crate that several proofs of its functions cite, passed on from one place. Declares nothing.
pub use Rattle.bag_check.proofs.CodeLemmas.{any_map, any_oxum, count_oxums, count_take, encodes, escapes, few_payload, found_by_bytes, judged, keeps_from, listings_done, listings_fail, listings_take, manifests_done, manifests_fail, manifests_skip, manifests_take, next_item, place_found, place_later, place_none, printed_parts, small_payload, unlisted, unlisted_here, unlisted_listed, unlisted_passed}
pub use Rattle.bag_check.proofs.Common.{◌&&◌, ◌+◌, [], any_from_yields_List, ap, are_others, arith, Bor, Contains, count_by, counts_of, cow_str_bytes, digests_of, drop, drop_all, drop_more, err_from_is_err_and, fails_on, file_of, files_of, first_breach, has_contains, has_map, HasEntry, is_kind, is_oxum, is_some, obeys_contents, length, length-map, List, listed_seen, listing_rules, listings_in, listings_of, manifests_in, map, map_push, named_fault, named_seen, not, Ok, option_map, OutsidePayload, pair_in, Payload, payload_bytes, payload_files, report_seen, rules, slice_index_or, subst, sym, YieldsList-from_slice, ℕ, ◌∙◌, ◌≡◌}
unfoldable pub use Rattle.bag_check.proofs.Common.{obeys}
pub use Rattle.bag_check.proofs.DigestLemmas.{digests_are, fixity_kept, item_has, lists_sha256, right_of}
