-- What a device's calls do to the number of its failures, and to the last error. The rules are Depot's own.
use Rattle.std.specs.Prelude.{◌≡◌, ℕ, ◌+◌, ◌-◌, ◌^◌, ◌<◌, ◌==◌, ◌&&◌, ◌⊎◌, nat_lt, min, Bool, true, false, List, length, Option, Some, Result, MatchResult, if◌then◌else◌}
use Rattle.std.specs.IoError.{error_kind}
use Rattle.std.specs.declared.io.Error.{Error}
use Rattle.std.specs.declared.io.ErrorKind.TheVariants.{WriteZero}
use Rattle.desk_devices.specs.declared.counted.Counted.{Counted}
use Rattle.desk_devices.specs.declared.fail_at.Portion.{Portion}
use Rattle.desk_devices.specs.declared.fail_at.Portion.TheVariants.{OneByte, All}

-- ---- what a counted device shows

-- what is read or written
abbrev pub device_of : {D : Type 0} → Counted D → D
device_of counted = counted.device

-- how many of its calls failed
abbrev pub failures_of : {D : Type 0} → Counted D → ℕ
failures_of counted = counted.failures

-- the error of the last call that failed
abbrev pub last_error_of : {D : Type 0} → Counted D → Option Error
last_error_of counted = counted.last_error

-- ---- what a call does to them

-- one failure more; the last value stays
abbrev pub one_more : ℕ → ℕ
one_more failures = min (failures + 1) (2 ^ 64 - 1)

-- a call that failed is counted, and no other
abbrev pub CountsFailure : {T E : Type 0} → ℕ → ℕ → Result T E → Type 0
CountsFailure old new result = MatchResult result (λ _. new ≡ old) (λ _. new ≡ one_more old)

-- a write that says it took this number of bytes took nothing of some
abbrev pub took_nothing : ℕ → List ℕ → Bool
took_nothing n bytes = n == 0 && nat_lt 0 (length bytes)

-- a write that failed, or that took nothing of some bytes, is counted, and no other
abbrev pub CountsFailedWrite : {E : Type 0} → ℕ → ℕ → Result ℕ E → List ℕ → Type 0
CountsFailedWrite old new result bytes =
    MatchResult result (λ n. new ≡ (if took_nothing n bytes then one_more old else old)) (λ _. new ≡ one_more old)

-- a call that failed keeps its error as the last, and a call that worked leaves the last
abbrev pub NotesError : {T : Type 0} → Option Error → Option Error → Result T Error → Type 0
NotesError old new result = MatchResult result (λ _. new ≡ old) (λ error. new ≡ Some error)

-- a write that took nothing of some bytes has no error of its own, and is given one
abbrev pub IsZeroWrite : Bool → Option Error → Option Error → Type 0
IsZeroWrite true old new = (error : Error) × (new ≡ Some error) × (error_kind error ≡ WriteZero)
IsZeroWrite false old new = new ≡ old

-- so does a write
abbrev pub NotesWriteError : Option Error → Option Error → Result ℕ Error → List ℕ → Type 0
NotesWriteError old new result bytes =
    MatchResult result (λ n. IsZeroWrite (took_nothing n bytes) old new) (λ error. new ≡ Some error)

-- the device failed in between: the number rose, or is at its last value
abbrev pub HasFailed : ℕ → ℕ → Type 0
HasFailed old new = (old < new) ⊎ (new ≡ 2 ^ 64 - 1)

-- how many of this number of bytes a call of a test device gives or takes
abbrev pub count_in : Portion → ℕ → ℕ
count_in OneByte bytes = min bytes 1
count_in All bytes = bytes
