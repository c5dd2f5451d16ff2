-- The names that several proofs of this crate cite, passed on from one place. Declares nothing.
pub use Rattle.desk_answers.specs.Answers.{answer_text, refusal_text}
pub use Rattle.desk_hearing.specs.Asking.{HeardValue}
pub use Rattle.desk_hearing.specs.Hearing.{Hears}
pub use Rattle.desk_log.specs.Notes.{kind_of, note_of}
pub use Rattle.desk_serving.specs.Serving.{IsAnswered, IsHeardServed, IsNoted, ServesBytes, ServesNoted}
pub use Rattle.jiff.specs.Types.{Date}
pub use Rattle.sqlite.specs.Held.{Held, state}
pub use Rattle.sqlite.specs.Store.{Ghosts}
pub use Rattle.std.proofs.Common.{◌<◌, [], ap, arith, Bool, Err, false, IfOk, IfSome, length, List, None, Ok, OnOk, Option, refl, Result, rules, Some, subst, sym, take, true, ℕ, ◌≡◌}
