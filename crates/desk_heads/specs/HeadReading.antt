-- What a reader of a head answers. `Heads` says where a head ends; the answers are Depot's own.
use Rattle.std.specs.Prelude.{◌≡◌, ℕ, List, Option, Result, Ok, Err, ⊤}
use Rattle.std.specs.Io.KnownBytes.{IsAtEnd}
use Rattle.desk_heads.specs.Ends.{head_at}
use Rattle.desk_heads.specs.declared.head_end.HeadEnd.TheVariants.{Short, TooLarge, Found}
use Rattle.desk_heads.specs.declared.reading.HeadFault.{HeadFault}
use Rattle.desk_heads.specs.declared.reading.HeadFault.TheVariants as faults
use Rattle.desk_heads.specs.declared.reading.HeadBytes.{HeadBytes}

-- of the bytes that it was given, and of what is left: an end of the input and a failure are reported only where the bytes don't decide
abbrev pub EndRead : List ℕ → Result ℕ HeadFault → Option (List ℕ) → Type 0
EndRead given (Ok n) left = head_at given ≡ Found n
EndRead given (Err faults.TooLarge) left = head_at given ≡ TooLarge
EndRead given (Err faults.Truncated) left = (head_at given ≡ Short) × IsAtEnd left
EndRead given (Err faults.Read) left = head_at given ≡ Short
EndRead given (Err faults.Memory) left = ⊤

abbrev pub HeadRead : List ℕ → Result HeadBytes HeadFault → Option (List ℕ) → Type 0
HeadRead given (Ok head) left = (head.bytes.items ≡ given) × EndRead given (Ok head.end) left
HeadRead given (Err fault) left = EndRead given (Err fault) left

-- of all the bytes that there are
abbrev pub EndOf : List ℕ → Result ℕ HeadFault → Type 0
EndOf input (Ok n) = head_at input ≡ Found n
EndOf input (Err faults.TooLarge) = head_at input ≡ TooLarge
EndOf input (Err faults.Truncated) = head_at input ≡ Short
EndOf input (Err faults.Read) = ⊤
EndOf input (Err faults.Memory) = ⊤

abbrev pub HeadOf : List ℕ → Result HeadBytes HeadFault → Type 0
HeadOf input (Ok head) = EndOf input (Ok head.end)
HeadOf input (Err fault) = EndOf input (Err fault)
