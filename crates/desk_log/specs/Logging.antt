-- What a log gets of lines. `old` is the log before and `new` the log after.
use Rattle.std.specs.Prelude.{◌≡◌, ◌⊎◌, ℕ, List, [], ◌∷◌, Option, take}
use Rattle.std.specs.Io.KnownBytes.{Appends}
use Rattle.std.specs.declared.io.Write.{Ghosts as Writes}
use Rattle.desk_devices.specs.Devices.{HasFailed, device_of, failures_of}
use Rattle.desk_devices.specs.declared.counted.Counted.{Counted}

-- a log: what it holds, where that is known, and how many of its calls failed
pub record Log : Type 0 where
  pub held : Option (List ℕ)
  pub failures : ℕ

abbrev pub log_of : {W : Type 0} → Writes W → Counted W → Log
log_of w counted = record { held = w.contents (device_of counted); failures = failures_of counted }

-- the log got all of the line; or, where a call on it failed, a beginning: nothing, a part or all of it
pub record IsLineLogged (line : List ℕ) (old new : Log) : Type 0 where
  pub part : List ℕ
  pub count : ℕ
  pub begins : part ≡ take count line
  pub written : Appends old.held new.held part
  pub whole : HasFailed old.failures new.failures ⊎ ((new.failures ≡ old.failures) × (part ≡ line))

-- and these lines, one after the other
abbrev pub IsLogged : List (List ℕ) → Log → Log → Type 0
IsLogged [] old new = new ≡ old
IsLogged (line ∷ more) old new = (mid : Log) × IsLineLogged line old mid × IsLogged more mid new
