-- What is logged of connections, over the list of what came of each.
use Rattle.std.specs.Prelude.{ℕ, List, [], ◌∷◌, ◌++◌, map, Result, Ok, Err}
use Rattle.desk_log.specs.Lines.{end_line}
use Rattle.desk_log.specs.Watching.{first_watch, lines_from, watch_from}
use Rattle.desk_log.specs.declared.watch.Watch.{Watch}
use Rattle.desk_listening.specs.Listening.{Connection, noted}

-- the lines of the office's answers, as connections come one after the other
abbrev pub lines_of : List Connection → List (List ℕ)
lines_of connections = lines_from first_watch (map noted connections)

-- what is known after them
abbrev pub watch_of : List Connection → Watch
watch_of connections = watch_from first_watch (map noted connections)

-- the line of serving that came to its end, after as many connections as were asked for
abbrev pub end_lines : {T E : Type 0} → Result T E → ℕ → List (List ℕ)
end_lines (Ok _) count = end_line count ∷ []
end_lines (Err _) count = []

abbrev pub all_lines : {T E : Type 0} → Result T E → ℕ → List Connection → List (List ℕ)
all_lines result count connections = lines_of connections ++ end_lines result count
