-- The lemmas of this crate that several proofs of its functions cite, passed on from one place. Declares nothing.
pub use Rattle.http_desk.proofs.Common.{◌*◌, ◌+◌, ◌++◌, ◌-◌, ◌<◌, [], answer_record, ap, Appends, Appends-nil, arith, Bad, CanNotBegin, common_steps, Consumes-nil, Date, device_of, drop, failures_of, has_marks, IsUtf8, length, length-append, length-drop, length_of, List, max_records, moment_of, More, nil_from_length, Ok, ReadsMore, record_text, refl, ServesBytes, Some, state, subst, sym, take, take_all, true, WantsMore, ℕ, ◌∙◌, ◌≡◌, ◌≢◌, ◌≤◌, ◌⊎◌}
pub use Rattle.http_desk.proofs.FoundLemmas.{cut_at, found_in, line_begins, long_line, no_feed_in_front, no_line, one_record, only_found, wanted_none, wanted_short}
pub use Rattle.http_desk.proofs.LineLemmas.{day_text-utf8, line_count, line_day, line_marks, marked_line}
pub use Rattle.http_desk.proofs.ListLemmas.{one_split, rest_shorter}
pub use Rattle.http_desk.proofs.ReplayLemmas.{answered_on, bad_at_end, bad_stop, ended, heard_as, Progress, read_on, started, stopped_by, unread, unremembered, unserved, unwritten_stop}
