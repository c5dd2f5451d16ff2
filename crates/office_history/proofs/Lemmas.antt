-- The lemmas of this crate that several proofs of its functions cite, passed on from one place. Declares nothing.
pub use Rattle.office_history.proofs.Accepted.{depositable, grown_by_none}
pub use Rattle.office_history.proofs.AnsweredLemmas.{class_hold, collection_hold, holds_after, not_told, refused_change, was_placed, was_released}
pub use Rattle.office_history.proofs.Common.{◌+◌, [], after, allowed_change, ap, arith, audit_report, Change, change, changes_unless, DefineClass, DefinedClass, deposits, Destroyed, DownloadBag, DownloadFile, due, files_of, flat_map, has_contains, History, hold_numbered, HoldClass, HoldCollection, holds, if_valid, inl, inr, Installed, Item, kept_numbers, length, length-append, List, live_holds, map, refl, Refusal, refusal, Release, release_day, ReleasedHold, report_or_text, signed_arith, Some, Step, subst, sym, valid_bag, with_changes, ◌∙◌, ◌∷◌, ◌≡◌, ◌≤◌}
pub use Rattle.office_history.proofs.CoverLemmas.{among_live, least_covers, least_is, refused_for_least, two_live}
pub use Rattle.office_history.proofs.HistoryLemmas.{class_hold_stays, collection_hold_stays, more_deposits, more_holds}
pub use Rattle.office_history.proofs.KeptLemmas.{audited, content_kept, disposable_is_listed, due_is_listed, kept_content, listed_is_disposable, listed_is_due}
pub use Rattle.office_history.proofs.LawLemmas.{both_answered, covers_class, covers_collection, deposit_adds, later_still, read_of, released_stays, revised_due, run_grows, served_content, served_form, unrefused, was_deposited}
pub use Rattle.office_history.proofs.LegalLemmas.{changes_stand, run_legal, sound_bag}
pub use Rattle.office_history.proofs.ListLemmas.{all_numbered}
pub use Rattle.office_history.proofs.OnceLemmas.{held_least, not_among_live, refuses_none, was_allowed}
pub use Rattle.office_history.proofs.RangeLemmas.{accessions_apart, closed_deposits, HasPlace, HasSoundBag, HasTarget, limits_hold, placed_deposits, placed_holds, sound_deposits, WasClosed}
