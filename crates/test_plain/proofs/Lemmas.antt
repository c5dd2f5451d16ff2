-- The lemmas of this crate that several proofs of its functions cite, passed on from one place. Declares nothing.
pub use Rattle.test_plain.proofs.Common.{◌&&◌, ◌+◌, [], ap, arith, change_seen, common_steps, covers, denial, deposit_in, destruction_day, Dispose, drop, filter_map, first_some, full_of_holds, HasRoom, History, IfOk-weaker, is_live, is_none, kept_refusals, length, List, listed_record, no_file, no_such_class, no_such_collection, None, Option, Refusal, refusal, Some, subst, sym, told_hold, ℕ, ◌∙◌, ◌∷◌, ◌≡◌}
pub use Rattle.test_plain.proofs.WalkLemmas.{accession_behind, accession_found, filter_passed, filter_took, first_behind, first_in_front, item_fails, item_passes, item_silent, item_told, none_said, numbered_next, one_only, place_passes, place_stands, within_grown}
