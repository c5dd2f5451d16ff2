-- What the program prints.
use Rattle.std.specs.Prelude.{◌≡◌, ◌⊎◌, ℕ, List, Option, option_map, string_bytes}
use Rattle.commands.specs.declared.ending.Ending.{Ending}
use Rattle.commands.specs.declared.ending.Ending.TheVariants.{Accepted, Refused}
use Rattle.commands.specs.declared.outcome.Outcome.{Outcome}

-- what is to be printed to standard error, where there is something
abbrev pub reason_of : Outcome → Option (List ℕ)
reason_of outcome = option_map string_bytes outcome.reason

-- it prints this text, prints this reason to standard error, and ends in this way
abbrev pub Prints : Outcome → List ℕ → Option (List ℕ) → Ending → Type 0
Prints outcome text reason end = (string_bytes outcome.text ≡ text) × (reason_of outcome ≡ reason) × (outcome.ending ≡ end)

-- the ending of an answer: yes or no
abbrev pub IsAnswer : Ending → Type 0
IsAnswer ending = (ending ≡ Accepted) ⊎ (ending ≡ Refused)
