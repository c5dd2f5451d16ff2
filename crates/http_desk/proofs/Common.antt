-- The names that several proofs of this crate cite, passed on from one place. Declares nothing.
pub use Rattle.desk_devices.specs.Devices.{device_of, failures_of}
pub use Rattle.desk_serving.specs.Serving.{DeskRequest, IsAnswered, ServesBytes}
pub use Rattle.http_desk.specs.RecordLists.{answer_texts, AreRecords, IsSplit, max_records, request_texts}
pub use Rattle.http_desk.specs.RecordReading.{has_length_form, has_marks, length_of, LineSays}
pub use Rattle.http_desk.specs.Records.{answer_record, BeginsWithNone, CanNotBegin, HasLine, HasNoLineFeed, IsLine, IsRecord, WantsMore}
unfoldable pub use Rattle.http_desk.specs.Records.{line_text, record_text}
pub use Rattle.http_desk.specs.ReplaySteps.{AnswersNext, fault_after, ReadsMore}
pub use Rattle.http_desk.specs.Replaying.{AnswersEach, AnswersRecord, HasAnswered, HasDone, HasWritten, Moment, moment_of, Replayed}
pub use Rattle.http_desk.specs.declared.record.Found.TheVariants.{Bad, More, Whole}
pub use Rattle.jiff.specs.Types.{Date}
pub use Rattle.sqlite.specs.Held.{Held, state}
pub use Rattle.sqlite.specs.Store.{Ghosts}
pub use Rattle.std.proofs.Common.{◌%◌, ◌&&◌, ◌*◌, ◌+◌, ◌++◌, ◌-◌, ◌/◌, ◌<◌, ◌==◌, [], ◌^◌, add-one, ap, append-nil, append_assoc, arith, Bool, bytes_eq, codes, cond, decimal, drop, drop-cons, Err, false, get_or, inl, inr, IsAscii, IsUtf8, length, length-append, length-drop, List, min, nat_le, nat_lt, None, not, Ok, Option, position, refl, replicate, rules, slice_index, Some, subst, suc, sym, take, take_all, true, unsigned_abs, zero, ℕ, ◌∙◌, ◌∷◌, ◌≡◌, ◌≢◌, ◌≤◌, ◌⊎◌}
pub use Rattle.std.proofs.KnownBytes.{Appends-nil, Appends-trans, Consumes-nil, Consumes-trans}
pub use Rattle.std.proofs.lemmas.Bool.{and_parts, cases_lt}
pub use Rattle.std.proofs.lemmas.Bool.Decides.{nat_tests}
pub use Rattle.std.proofs.lemmas.Fmt.{decimal-digits_value, decimal_digit, decimal_injective, decimal_nonempty, digits_decimal, digits_value-decimal, first_decimal, length-decimal-le}
pub use Rattle.std.proofs.lemmas.Grind.{common_steps}
pub use Rattle.std.proofs.lemmas.List.{get_or-take, length-replicate, length-take, nil_from_length, take-append-drop}
pub use Rattle.std.specs.Char.{is_ascii_digit}
pub use Rattle.std.specs.Io.KnownBytes.{Appends, Consumes, IsAtEnd}
pub use Rattle.std.specs.List.{list_all, prefix_len}
pub use Rattle.std.specs.Str.Parse.{digits_value}
