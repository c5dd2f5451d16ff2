-- What is said of the bytes where a record may begin. The format is Depot's own.
use Rattle.std.specs.Prelude.{◌≡◌, ℕ, List, ◌++◌, Option, Some, None}
use Rattle.jiff.specs.Types.{Date}
use Rattle.http_desk.specs.Records.{IsRecord, record_text, WantsMore, CanNotBegin}
use Rattle.http_desk.specs.declared.record.Found.{Found}
use Rattle.http_desk.specs.declared.record.Found.TheVariants as found

-- a record begins them, which is spelled so; or more bytes are wanted; or no bytes that follow give a record
abbrev pub FoundIn : Found → List ℕ → Type 0
FoundIn (found.Whole day bytes rest) input = IsRecord day bytes.now × (input ≡ record_text day bytes.now ++ rest.now)
FoundIn found.More input = WantsMore input
FoundIn found.Bad input = CanNotBegin input

-- the day, the bytes of the request, and what follows the record
abbrev pub whole_of : Found → Option (Date × List ℕ × List ℕ)
whole_of (found.Whole day bytes rest) = Some (day, bytes.now, rest.now)
whole_of found.More = None
whole_of found.Bad = None
