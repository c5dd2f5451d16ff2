-- The names that several proofs of this crate cite, passed on from one place. Declares nothing.
pub use Rattle.bag_text.specs.Text.{texts}
pub use Rattle.bag_text.specs.TransferReading.{files_of}
pub use Rattle.jiff.specs.Types.{Date}
pub use Rattle.office_core.specs.FirstOf.{first_some}
pub use Rattle.office_core.specs.declared.answer.Answer.{Answer}
pub use Rattle.office_core.specs.declared.refusal.Refusal.{Refusal}
pub use Rattle.office_core.specs.declared.request.Request.TheVariants.{Dispose}
pub use Rattle.office_history.proofs.Accepted.{allowed_of, AtMostOne, grown_by_none}
pub use Rattle.office_history.specs.Answers.{allowed_answer, allowed_change, listed_record, told_hold}
pub use Rattle.office_history.specs.Histories.{accession_of, Change, collection_in, covers, Deposit, deposit_in, Deposited, deposits, destroyed_in, destruction_day, has_accession, History, hold_in, holds, Installed, installed_in, is_live, kept_numbers, live_holds, PlacedHold, released_in, with_changes, years_in}
pub use Rattle.office_history.specs.Lists.{distinct_after, first_said, in_first_places, item_numbered, last_said}
pub use Rattle.office_history.specs.Refusals.{bag_refusals, denial, facts_of, full_of_holds, kept_refusals, no_file, no_such_class, no_such_collection, filing_refusals, refusal, refusal_of}
pub use Rattle.office_history.specs.Runs.{install, IsLegal, IsWithin, Item, new, Run, RunFailing, step, StepFailing}
pub use Rattle.test_plain.specs.Changes.{change_seen, changes_seen}
pub use Rattle.test_plain.specs.Offices.{HasRoom, IsWantOfMemory}
pub use Rattle.test_plain.specs.Stocks.{contents_of}
pub use Rattle.std.proofs.Common.{◌&&◌, ◌+◌, ◌++◌, ◌-◌, ◌<◌, [], ap, append-nil, append_assoc, arith, Bool, Bor, bytes_eq, cond, drop, drop-cons, false, filter, get_or, IfOk, if◌then◌else◌, inl, inr, is_none, is_some, length, length-append, List, map, None, not, OnOk, Option, option_copied, option_map, refl, Result, Some, subst, suc, sum, sym, true, vec_capacity, vec_len, zero, ◌||◌, ℕ, ◌∙◌, ◌∷◌, ◌≡◌, ◌≢◌, ◌≤◌}
pub use Rattle.std.proofs.lemmas.Grind.{common_steps}
pub use Rattle.std.proofs.lemmas.List.{drop_all, drop_more, map-append}
pub use Rattle.std.proofs.lemmas.Result.{IfOk-weaker}
pub use Rattle.std.specs.List.{cons_option, filter_map, flat_map, list_any, position_from, range_with_len}
pub use Rattle.std.specs.Option.{option_or}
