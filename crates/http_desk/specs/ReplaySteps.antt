-- What one step of a replay does: a record is found, the reader is called once more, a record is answered. No clause of a public call names
-- these. `input` is what the reader had left before a call, and `left` what it has left after it. The rules are Depot's own.
use Rattle.std.specs.Prelude.{◌≡◌, ◌≢◌, ◌⊎◌, ◌<◌, ◌≤◌, ◌+◌, ℕ, List, [], ◌++◌, Bool, true, false, Option, Result, Ok, Err, length, take}
use Rattle.std.specs.Io.KnownBytes.{Consumes, IsAtEnd}
use Rattle.http_desk.specs.Records.{IsRecord, record_text, answer_record, CanNotBegin, WantsMore}
use Rattle.http_desk.specs.RecordLists.{max_records}
use Rattle.http_desk.specs.declared.record.Found.{Found}
use Rattle.http_desk.specs.declared.record.Found.TheVariants as found
use Rattle.http_desk.specs.declared.answering.Unwritten.{Unwritten}
use Rattle.http_desk.specs.declared.answering.Unwritten.TheVariants as unwritten
use Rattle.http_desk.specs.declared.replaying.ReplayStop.{ReplayStop}
use Rattle.http_desk.specs.declared.replaying.ReplayStop.TheVariants as stops
use Rattle.http_desk.specs.declared.replaying.ReplayFault.{ReplayFault}

-- what follows this number of records: a record; nothing, or a beginning; or what is no record, whatever follows
abbrev pub FoundAfter : ℕ → Found → List ℕ → Type 0
FoundAfter count (found.Whole day bytes rest) input = IsRecord day bytes.now × (input ≡ record_text day bytes.now ++ rest.now) × (count < max_records)
FoundAfter count found.More input = WantsMore input
FoundAfter count found.Bad input = (input ≢ []) × (CanNotBegin input ⊎ (count ≡ max_records))

-- one more call of the reader: what it gives is added, and it gives nothing only at the end of the input
abbrev pub ReadsMore : Option (List ℕ) → Option (List ℕ) → List ℕ → List ℕ → Result Bool ReplayStop → Type 0
ReadsMore input left pending now (Ok true) = (more : List ℕ) × Consumes input left more × (now ≡ pending ++ more) × (0 < length more) × (length more ≤ 4096)
ReadsMore input left pending now (Ok false) = Consumes input left [] × IsAtEnd left × (now ≡ pending)
ReadsMore input left pending now (Err stops.Read) = Consumes input left []
ReadsMore input left pending now (Err stops.Memory) = (more : List ℕ) × Consumes input left more
ReadsMore input left pending now (Err stops.Write) = ⊥
ReadsMore input left pending now (Err (stops.BadRecord index)) = ⊥

-- One record: the record of its answer is written whole, or a beginning of it, or nothing. `Answers` says of a text that it answers the record,
-- `untouched` that nothing is done, and `Writes` of some bytes that they are written.
abbrev pub AnswersNext : {T : Type 0} → (List ℕ → Type 0) → Type 0 → (List ℕ → Type 0) → Result T Unwritten → Type 0
AnswersNext Answers untouched Writes (Ok _) = (text : List ℕ) × Answers text × Writes (answer_record text)
AnswersNext Answers untouched Writes (Err unwritten.Write) =
    (text : List ℕ) × (n : ℕ) × Answers text × (n < length (answer_record text)) × Writes (take n (answer_record text))
AnswersNext Answers untouched Writes (Err (unwritten.Memory true)) = (text : List ℕ) × Answers text × Writes []
AnswersNext Answers untouched Writes (Err (unwritten.Memory false)) = untouched × Writes []

-- the fault of a stop at the record after this number of them
abbrev pub fault_after : ℕ → Unwritten → ReplayFault
fault_after count unwritten.Write = record { stop = stops.Write; done = count + 1; answered = count }
fault_after count (unwritten.Memory true) = record { stop = stops.Memory; done = count + 1; answered = count }
fault_after count (unwritten.Memory false) = record { stop = stops.Memory; done = count; answered = count }
