-- What reading a transfer form gives, step by step.
use Rattle.std.specs.Prelude.{◌≡◌, ℕ, zero, suc, ◌+◌, ◌-◌, ◌*◌, true, false, not, List, [], ◌∷◌, length, map, take, drop, slice_index, Option, Some, None, Result, Ok, Err, nat_lt, nat_le, ◌==◌, ◌&&◌, codes, if◌then◌else◌}
use Rattle.std.specs.Char.{is_ascii_digit}
use Rattle.std.specs.List.Sorted.{IsPartitionPoint}
use denote.Ref.{Bor}
use Rattle.bag_text.specs.Answers.{◌>>=◌}
use Rattle.bag_text.specs.Paths.{max_path, is_good, comes_before}
use Rattle.bag_text.specs.TransferForm.{File, Head, opening, ending, max_content, max_files, clashes}
use Rattle.bag_text.specs.declared.header.Header.{Header}
use Rattle.bag_text.specs.declared.header.EndOrEntry.{EndOrEntry}
use Rattle.bag_text.specs.declared.header.EndOrEntry.TheVariants as places
use Rattle.bag_text.specs.declared.header.Flaw.{Flaw}
use Rattle.bag_text.specs.declared.header.Flaw.TheVariants.{Short, Bad}
use Rattle.bag_text.specs.declared.set_fault.SetFault.{SetFault}
use Rattle.bag_text.specs.declared.set_fault.SetFault.TheVariants.{BadOpening, BadEntry, Truncated, OutOfOrder, BadPath, TooManyFiles, TrailingBytes, PathClash, Memory}

unfoldable pub literal_at : List ℕ → List ℕ → Result (List ℕ) Flaw
literal_at [] text = Ok text
literal_at (wanted ∷ more) [] = Err Short
literal_at (wanted ∷ more) (b ∷ text) = if b == wanted then literal_at more text else Err Bad

-- the digits after the first: none after a 0, and none that pass the limit
unfoldable pub digits_at : ℕ → ℕ → ℕ → List ℕ → Result (ℕ × List ℕ) Flaw
digits_at stop most n [] = Err Short
digits_at stop most n (b ∷ text) =
    if b == stop then Ok (n, text)
    else if is_ascii_digit b && nat_lt 0 n && nat_le (n * 10 + (b - 48)) most then digits_at stop most (n * 10 + (b - 48)) text
    else Err Bad

-- a number from least to most, and the byte after it
unfoldable pub number_at : ℕ → ℕ → ℕ → List ℕ → Result (ℕ × List ℕ) Flaw
number_at stop least most [] = Err Short
number_at stop least most (b ∷ text) =
    if is_ascii_digit b && nat_le least (b - 48) then digits_at stop most (b - 48) text else Err Bad

unfoldable pub header_at : List ℕ → Result Head Flaw
header_at text = do
  after ← literal_at (codes "FILE ") text
  p ← number_at 32 1 max_path after
  c ← number_at 10 0 max_content p.1
  Ok (record { path_len = p.0; content_len = c.0; rest = c.1 })

-- what is where an entry may begin: the end with what follows it, or a header
pub data EndOrHead : Type 0 where
  End : List ℕ → EndOrHead
  Entry : Head → EndOrHead

unfoldable pub end_or_head_at : List ℕ → Result EndOrHead Flaw
end_or_head_at [] = Err Short
end_or_head_at (b ∷ text) =
    if b == 69 then (literal_at ending (b ∷ text) >>= λ rest. Ok (End rest))
    else (header_at (b ∷ text) >>= λ head. Ok (Entry head))

-- an entry after its header
unfoldable pub file_at : ℕ → List ℕ → Head → Result (File × List ℕ) SetFault
file_at offset before head =
    let path = take head.path_len head.rest in
    let content = take head.content_len (drop head.path_len head.rest) in
    let behind = drop head.content_len (drop head.path_len head.rest) in
    if nat_lt (length head.rest) (head.path_len + head.content_len + 1) then Err Truncated
    else if not (slice_index behind 0 == 10) then Err (BadEntry offset)
    else if not (is_good path) then Err (BadPath offset)
    else if not (comes_before before path) then Err (OutOfOrder offset)
    else Ok (record { path = path; content = content }, drop 1 behind)

-- A fault's offset is the length of the whole text less that of what is left.
abbrev pub flaw_at : ℕ → Flaw → SetFault
flaw_at offset Short = Truncated
flaw_at offset Bad = BadEntry offset

abbrev pub result_at : {A : Type 0} → ℕ → Result A Flaw → Result A SetFault
result_at offset (Ok x) = Ok x
result_at offset (Err e) = Err (flaw_at offset e)

-- what follows from what is there: none at the end, else a file and what follows it
abbrev pub entry_of : ℕ → ℕ → List ℕ → EndOrHead → Result (Option (File × List ℕ)) SetFault
entry_of offset left before (End rest) = if length rest == 0 then Ok None else Err TrailingBytes
entry_of offset zero before (Entry head) = Err TooManyFiles
entry_of offset (suc more) before (Entry head) = file_at offset before head >>= λ file. Ok (Some file)

unfoldable pub entry_at : ℕ → ℕ → List ℕ → List ℕ → Result (Option (File × List ℕ)) SetFault
entry_at offset left before text = result_at offset (end_or_head_at text) >>= entry_of offset left before

-- the files of what is left, of which there may be this number more
unfoldable pub files_at : ℕ → ℕ → List ℕ → List ℕ → Result (List File) SetFault
files_at whole zero before text = entry_at (whole - length text) zero before text >>= λ found. Ok []
files_at whole (suc more) before text =
    entry_at (whole - length text) (suc more) before text >>= λ found. elim found [
      | None ↦ Ok []
      | Some file ↦ files_at whole more file.0.path file.1 >>= λ files. Ok (file.0 ∷ files)
    ]

-- what a text begins with instead of the opening
abbrev pub after_opening : Result (List ℕ) Flaw → Result (List ℕ) SetFault
after_opening (Ok rest) = Ok rest
after_opening (Err Short) = Err Truncated
after_opening (Err Bad) = Err BadOpening

-- the files of a text, or its first fault
unfoldable pub set_of : List ℕ → Result (List File) SetFault
set_of text = do
  rest ← after_opening (literal_at opening text)
  files ← files_at (length text) max_files [] rest
  if clashes files then Err PathClash else Ok files

-- ---- what a call answers, unless memory runs out

-- the fault that an error names, none where memory ran out
abbrev pub named_set_fault : SetFault → Option SetFault
named_set_fault Memory = None
named_set_fault fault = Some fault

abbrev pub file_of : Bor (List ℕ) × Bor (List ℕ) → File
file_of pair = record { path = pair.0.now; content = pair.1.now }

abbrev pub files_of : List (Bor (List ℕ) × Bor (List ℕ)) → List File
files_of pairs = map file_of pairs

abbrev pub head_of : Header → Head
head_of h = record { path_len = h.path_len; content_len = h.content_len; rest = h.rest.now }

abbrev pub end_or_head_of : EndOrEntry → EndOrHead
end_or_head_of (places.End rest) = End rest.now
end_or_head_of (places.Entry h) = Entry (head_of h)

-- the files before this position come before the path, and the others don't
abbrev pub IsPositionOf : List ℕ → List (Bor (List ℕ) × Bor (List ℕ)) → ℕ → Type 0
IsPositionOf path files position = IsPartitionPoint (λ pair. comes_before pair.0.now path ≡ true) (λ pair. comes_before pair.0.now path ≡ false) files position
