-- The lemmas of this crate that several proofs of its functions cite, passed on from one place. Declares nothing.
pub use Rattle.desk_hearing.proofs.Common.{◌+◌, ◌<◌, AllowsQuery, AnswersFront, ap, Err, err_from_is_err_and, ask_of_hold, Ok, refl, refusal_of_head, subst, sym, take, Truncated, ◌∙◌, ◌≡◌, ◌≤◌}
pub use Rattle.desk_hearing.proofs.JudgingLemmas.{asked_route, body_refused, form_refused, front_announced, head_uncut, keys_refused, listing_refused, query_refused, query_uncut, route_refused, route_uncut}
pub use Rattle.desk_hearing.proofs.ReadingLemmas.{ask_given, ask_uncut, fill_end, fill_given, filled, front_given, head_end, head_given, heard_given, judged_uncut, part_is, unremembered, whole_of}
