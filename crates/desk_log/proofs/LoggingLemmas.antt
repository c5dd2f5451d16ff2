-- Lines that are logged, one after the other.
use Rattle.std.proofs.Common.{◌≡◌, ◌<◌, ◌++◌, ◌∷◌, [], ℕ, List, Result, Ok, Err, OnErr, OnOk, arith, inl, inr, length, refl, subst, sym, take}
use Rattle.std.specs.Io.KnownBytes.{Appends}
use Rattle.std.proofs.lemmas.List.{take_all}
use Rattle.desk_devices.specs.Devices.{HasFailed}
use Rattle.desk_log.specs.Logging.{IsLogged, Log}

-- a line that was written whole, or cut short where a call failed
pub told : {T F : Type 0} (line : List ℕ) (result : Result T F) (old new : Log) → OnOk result (Appends old.held new.held line) → OnOk result (new.failures ≡ old.failures)
    → OnErr result ((n : ℕ) × (n < length line) × Appends old.held new.held (take n line)) → OnErr result (HasFailed old.failures new.failures) → IsLogged (line ∷ []) old new
told line (Ok _) old new written calm cut failed = (
  new,
  record { part = line; count = length line; begins = sym (take_all (length line) line (omega arith)); written = written; whole = inr (calm, refl) },
  refl,
)
told line (Err _) old new written calm cut failed = (
  new,
  record { part = take cut.0 line; count = cut.0; begins = refl; written = cut.2; whole = inl failed },
  refl,
)

-- no line
pub no_line : (log : Log) → IsLogged [] log log
no_line log = refl

-- more lines
pub more_lines : (lines more : List (List ℕ)) (old mid new : Log) → IsLogged lines old mid → IsLogged more mid new → IsLogged (lines ++ more) old new
more_lines [] more old mid new first next = subst (λ (log : Log). IsLogged more log new) first next
more_lines (line ∷ lines) more old mid new first next = (first.0, first.1, more_lines lines more first.0 mid new first.2 next)
