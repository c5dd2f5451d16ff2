-- What is noted as a reading.
use Rattle.desk_serving.proofs.Common.{◌≡◌, [], ℕ, List, Option, Some, None, refl, Date, kind_of}
use Rattle.office_core.specs.declared.refusal.Refusal.{Refusal}
use Rattle.office_core.specs.declared.request.Request.{Request}
use Rattle.office_core.specs.declared.request.Request.TheVariants as asks
use Rattle.office_history.specs.Answers.{OnlyReads, change, changes_unless}
use Rattle.office_history.specs.Histories.{History}
use Rattle.office_history.specs.Refusals.{refusal}
use Rattle.desk_log.specs.declared.note.RequestKind.TheVariants.{Reading}

none_made : (refused : Option Refusal) → changes_unless refused [] ≡ []
none_made None = refl
none_made (Some why) = refl

pub nothing_changed : (h : History) (day : Date) (caller : List ℕ) (request : Request) → kind_of request ≡ Reading → change h day caller request ≡ []
nothing_changed h day caller (asks.List collection class) is = none_made (refusal h day caller (asks.List collection class))
nothing_changed h day caller (asks.Record n) is = none_made (refusal h day caller (asks.Record n))
nothing_changed h day caller (asks.Holds n) is = none_made (refusal h day caller (asks.Holds n))
nothing_changed h day caller (asks.DownloadBag n) is = none_made (refusal h day caller (asks.DownloadBag n))
nothing_changed h day caller (asks.DownloadFile n path) is = none_made (refusal h day caller (asks.DownloadFile n path))
nothing_changed h day caller (asks.Audit n) is = none_made (refusal h day caller (asks.Audit n))
nothing_changed h day caller asks.DueList is = none_made (refusal h day caller asks.DueList)
nothing_changed h day caller _ is = absurd cc

pub noted_reading : (request : Request) → OnlyReads request → kind_of request ≡ Reading
noted_reading (asks.List collection class) reads = refl
noted_reading (asks.Record n) reads = refl
noted_reading (asks.Holds n) reads = refl
noted_reading (asks.DownloadBag n) reads = refl
noted_reading (asks.DownloadFile n path) reads = refl
noted_reading (asks.Audit n) reads = refl
noted_reading _ reads = absurd reads
