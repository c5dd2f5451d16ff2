-- The lines of the log. Connections are numbered from 1.
use Rattle.std.specs.Prelude.{◌++◌, ◌∷◌, [], ℕ, List, codes, decimal}
use Rattle.desk_log.specs.declared.note.OfficeFailure.{OfficeFailure}
use Rattle.desk_log.specs.declared.note.OfficeFailure.TheVariants.{Memory, Store}
use Rattle.desk_log.specs.declared.note.RequestKind.{RequestKind}
use Rattle.desk_log.specs.declared.note.RequestKind.TheVariants.{Change, Reading}

abbrev pub failure_name : OfficeFailure → List ℕ
failure_name Memory = codes "Memory"
failure_name Store = codes "Store"

abbrev pub kind_name : RequestKind → List ℕ
kind_name Change = codes "a change"
kind_name Reading = codes "a reading"

-- how a request of that kind succeeds
abbrev pub success_name : RequestKind → List ℕ
success_name Change = codes " was accepted again, after "
success_name Reading = codes " succeeded again, after "

-- of which connection, and of which kind of request
abbrev pub line_front : ℕ → RequestKind → List ℕ
line_front number kind = ((codes "depot: connection " ++ decimal number) ++ codes ": ") ++ kind_name kind

-- a request failed so, the last of this number in a row: "depot: connection 17: a change was answered Store, 1 in a row"
abbrev pub failed_line : ℕ → RequestKind → OfficeFailure → ℕ → List ℕ
failed_line number kind failure count =
    ((((line_front number kind ++ codes " was answered ") ++ failure_name failure) ++ codes ", ") ++ decimal count) ++ (codes " in a row" ++ 10 ∷ [])

-- and one succeeds again: "depot: connection 40: a change was accepted again, after 23 in a row, the last answered Store"
abbrev pub success_line : ℕ → RequestKind → OfficeFailure → ℕ → List ℕ
success_line number kind failure count =
    ((((line_front number kind ++ success_name kind) ++ decimal count) ++ codes " in a row, the last answered ") ++ failure_name failure) ++ 10 ∷ []

-- as many connections were served as were asked for: "depot: serving ended after the connections that were asked for: 1000"
abbrev pub end_line : ℕ → List ℕ
end_line count = (codes "depot: serving ended after the connections that were asked for: " ++ decimal count) ++ 10 ∷ []
