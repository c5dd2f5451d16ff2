-- The lemmas of this crate that several proofs of its functions cite, passed on from one place. Declares nothing.
pub use Rattle.bag_text.proofs.BagListLemmas.{ascends, has_fault, is_list, is_made, is_refused, made_bag, met, none_left, passed, text_is_good}
pub use Rattle.bag_text.proofs.ClashLemmas.{clash_at, clash_law, not_under, under_rest}
pub use Rattle.bag_text.proofs.Common.{◌+◌, ◌++◌, ◌<◌, ◌==◌, [], AllByRecursion, ap, AreMarked, arith, Ascends, clashes, comes_before, content_at, Decides-eqb, decode, drop, entry, eqb, Equal, err_from_is_err_and, false, fault_from, File, file_of, files_at, files_of, flat_map, Gives, Greater, is_blank, is_colon, is_end, is_good, is_some, is_utf8-from_IsUtf8, IsPartitionPoint-from_clause, IsUtf8-from_is_utf8, CodePair, length, Less, lies_under, lines, List, list_all, list_any, listing_at, map, map_push, max_files, named_set_fault, nat_tests, not, option_map, pairs_from, pairs_of, position_from_yields_List, refl, rules, set_of, slice_get, strip_prefix_is, subst, sym, true, unwrap_or, YieldsList-from_slice, ℕ, ◌∙◌, ◌∷◌, ◌≡◌, ◌≤◌}
pub use Rattle.bag_text.proofs.FormLemmas.{files_ok, is_found, none_begins, set_again, set_ok, two_texts}
pub use Rattle.bag_text.proofs.InfoReadLemmas.{add_continued, all_read, continued, first_sound, IsSoundLine, joined_feed, label_text, line_fails, marked_last, marked_more, more_than_blanks, next_line, no_rest, none_marked, nothing_behind, pair_feed, skipped_text, something_behind, sound_lines, value_text, was_cut}
pub use Rattle.bag_text.proofs.LineLemmas.{are_lines, found_or_len, no_lines, one_list}
pub use Rattle.bag_text.proofs.ManifestLaws.{entries_iff, fault_is_refused, listing_is_entry, manifest_is_read, read_is_manifest, refused_is_fault, says_ascending, says_borrowed, says_fault, says_lists, says_manifest, says_path, says_reads, says_refused, spells_iff}
pub use Rattle.bag_text.proofs.ManifestLemmas.{added, done, good_is_text, step, twice}
pub use Rattle.bag_text.proofs.OrderLemmas.{begins_is, content_found, content_is, content_missing, content_stands, first_before_slash, found_is, longer, none_copied, not_longer, partitioned}
pub use Rattle.bag_text.proofs.RefusalLemmas.{form_has_none, form_or_fault, one_fault_stands, refuses}
pub use Rattle.bag_text.proofs.SetLemmas.{ends, goes_on, is_done, literal_short}
pub use Rattle.bag_text.proofs.TableLemmas.{is_fault, set_fault}
pub use Rattle.bag_text.proofs.TextLemmas.{blank_at_end, no_blank_at_end, text_answer, utf8_answer}
pub use Rattle.bag_text.proofs.WriteLemmas.{reads_back, writes_back, wrote_all, wrote_more}
