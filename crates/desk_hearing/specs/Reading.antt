-- What a reader of a request answers. `Hearing` says what is heard of the bytes; the answers are Depot's own.
use Rattle.std.specs.Prelude.{ℕ, List, Result, Ok, Err, ⊤}
use Rattle.desk_routes.specs.declared.refusal.DeskRefusal.TheVariants.{Truncated}
use Rattle.desk_hearing.specs.Asking.{HeardValue}
use Rattle.desk_hearing.specs.Hearing.{Hears}
use Rattle.desk_hearing.specs.declared.fault.HeardFault.{HeardFault}
use Rattle.desk_hearing.specs.declared.fault.HeardFault.TheVariants.{Refused, Read, Memory}

-- what is answered is what is heard of the bytes that the reader gave; it failed only where they end too early
abbrev pub HeardOf : List ℕ → Result HeardValue HeardFault → Type 0
HeardOf given (Ok heard) = Hears given (Ok heard)
HeardOf given (Err (Refused refusal)) = Hears given (Err refusal)
HeardOf given (Err Read) = Hears given (Err Truncated)
HeardOf given (Err Memory) = ⊤

-- of all the bytes that there are: a failure says nothing of those that were not read
abbrev pub HeardOfAll : List ℕ → Result HeardValue HeardFault → Type 0
HeardOfAll input (Ok heard) = Hears input (Ok heard)
HeardOfAll input (Err (Refused refusal)) = Hears input (Err refusal)
HeardOfAll input (Err Read) = ⊤
HeardOfAll input (Err Memory) = ⊤
