-- Request records and answer records. The format is Depot's own.
use Rattle.std.specs.Prelude.{◌≡◌, ◌≢◌, ℕ, ◌<◌, ◌≤◌, ◌⊎◌, List, [], ◌∷◌, ◌++◌, length, codes, decimal, slice_index, EachIndex}
use Rattle.jiff.specs.Types.{Date}
use Rattle.office_core.specs.Days.{IsDay, day_text}

-- the most bytes of a request in a record
abbrev pub max_request : ℕ
max_request = 16_800_000

-- the line before a request, without its LF: `REQ `, the day, a blank and the number of the request's bytes
unfoldable pub line_text : Date → ℕ → List ℕ
line_text day count = codes "REQ " ++ (day_text day ++ (32 ∷ decimal count))

-- a request record: the line, LF, the request's bytes, LF
unfoldable pub record_text : Date → List ℕ → List ℕ
record_text day bytes = line_text day (length bytes) ++ (10 ∷ (bytes ++ 10 ∷ []))

-- what a line may say: a day of the office, and a number of bytes
abbrev pub IsLine : Date → ℕ → Type 0
IsLine day count = IsDay day × (count ≤ max_request)

-- a request that has a record
abbrev pub IsRecord : Date → List ℕ → Type 0
IsRecord day bytes = IsLine day (length bytes)

-- no record begins the input
abbrev pub BeginsWithNone : List ℕ → Type 0
BeginsWithNone input = (day : Date) (bytes rest : List ℕ) → IsRecord day bytes → input ≢ record_text day bytes ++ rest

-- and none would, whatever followed
abbrev pub CanNotBegin : List ℕ → Type 0
CanNotBegin input = (others : List ℕ) → BeginsWithNone (input ++ others)

-- no byte of a line is an LF
abbrev pub HasNoLineFeed : List ℕ → Type 0
HasNoLineFeed text = EachIndex text (λ k. slice_index text k ≢ 10)

-- the most bytes of a line and its LF
abbrev pub max_line : ℕ
max_line = 24

-- the input has no whole line, and is shorter than a line may be
abbrev pub HasNoLine : List ℕ → Type 0
HasNoLine input = (length input < max_line) × HasNoLineFeed input

-- the input has a record's line, and no more bytes after it than the line says
pub record HasLine (input : List ℕ) : Type 0 where
  pub day : Date
  pub count : ℕ
  pub body : List ℕ
  pub is_line : IsLine day count
  pub text : input ≡ line_text day count ++ (10 ∷ body)
  pub short : length body ≤ count

-- more bytes are wanted before a record is seen
abbrev pub WantsMore : List ℕ → Type 0
WantsMore input = HasNoLine input ⊎ HasLine input

-- ---- answers

-- an answer record: `ANS `, the number of the answer's bytes, LF, the bytes, LF
abbrev pub answer_record : List ℕ → List ℕ
answer_record bytes = codes "ANS " ++ (decimal (length bytes) ++ (10 ∷ (bytes ++ 10 ∷ [])))
