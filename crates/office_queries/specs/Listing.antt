-- Which deposits a list asks for.
use Rattle.std.specs.Prelude.{ℕ, List, Option, option_copied}
use denote.Ref.{Bor}
use Rattle.office_history.specs.Answers.{Wanted}

-- what a list asks for, of what the code is handed
abbrev pub wanted_of : Option (Bor (List ℕ)) → Option (Bor (List ℕ)) → Wanted
wanted_of collection class = record { collection = option_copied collection; class = option_copied class }
