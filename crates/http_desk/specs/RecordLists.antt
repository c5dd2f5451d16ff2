-- Records, one after the other. The format, and how many there may be, are Depot's own.
use Rattle.std.specs.Prelude.{◌≡◌, ℕ, ◌<◌, ◌≤◌, List, [], ◌∷◌, ◌++◌, length, ⊤}
use Rattle.desk_serving.specs.Serving.{DeskRequest}
use Rattle.http_desk.specs.Records.{IsRecord, record_text, answer_record, BeginsWithNone}

-- the most records of an input
abbrev pub max_records : ℕ
max_records = 1_000_000

-- the texts of the records, one after the other
abbrev pub request_texts : List DeskRequest → List ℕ
request_texts [] = []
request_texts (item ∷ items) = record_text item.day item.bytes ++ request_texts items

abbrev pub AreRecords : List DeskRequest → Type 0
AreRecords [] = ⊤
AreRecords (item ∷ items) = IsRecord item.day item.bytes × AreRecords items

-- The input is these records, at most `most`, and what follows them. That begins with no record unless there are `most`.
pub record IsSplit (most : ℕ) (input : List ℕ) (items : List DeskRequest) (rest : List ℕ) : Type 0 where
  pub text : input ≡ request_texts items ++ rest
  pub each : AreRecords items
  pub few : length items ≤ most
  pub ends : length items < most → BeginsWithNone rest

-- the records of an input, and what follows them
abbrev pub HasRecords : List ℕ → List DeskRequest → List ℕ → Type 0
HasRecords input items rest = IsSplit max_records input items rest

-- the texts of the answers' records, one after the other
abbrev pub answer_texts : List (List ℕ) → List ℕ
answer_texts [] = []
answer_texts (bytes ∷ answers) = answer_record bytes ++ answer_texts answers
