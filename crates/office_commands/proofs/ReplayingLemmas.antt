-- What a replay reads, has answered and prints, however it ends.
use Rattle.office_commands.proofs.Common.{◌≡◌, ◌⊎◌, ◌∙◌, ◌+◌, ℕ, List, [], Option, None, Some, Result, Ok, Err, IfErr, inl, inr, length, take, refl, sym, subst, Appends-kept, Appends, Consumes, IsAtEnd, Keeps, Held, Ghosts, DeskRequest, HasAnswered, HasDone, Moment, Stopped, AreDone, Deed, deeds_of_records, AreAnsweredBy, ComesOfReplay, ReplaysInPart, replay_failure, Traffic, Output, CommandFault, Failed}
use Rattle.std.proofs.lemmas.List.{append-nil}
use Rattle.http_desk.specs.RecordLists.{answer_texts}
use Rattle.http_desk.specs.declared.replaying.ReplayFault.{ReplayFault}
use Rattle.http_desk.specs.declared.replaying.ReplayStop.{ReplayStop}
use Rattle.http_desk.specs.declared.replaying.ReplayStop.TheVariants as stops
use Rattle.office_stores.specs.declared.fault.Cause.{Cause}
use Rattle.office_stores.specs.declared.fault.StoreFault.{StoreFault}
use Rattle.office_stores.specs.declared.fault.StoreFault.TheVariants.{Device, Memory}
use Rattle.office_commands.proofs.DeedLemmas.{as_many, records_are_done}

-- the records are read, and their answers are as many deeds
abbrev pub Comes : {S T : Type 0} → Ghosts S → Held S → Held S → Result T CommandFault → Traffic → Traffic → Type 0
Comes g first last r was now = (deeds : List Deed) × ComesOfReplay r deeds was now × AreDone g deeds first last

-- memory ran out after the last answer, or before it was printed
so_many : (fault : ReplayFault) (items : List DeskRequest) (texts : List (List ℕ)) → length texts ≡ length items → fault.done ≡ length items → (fault.done ≡ fault.answered) ⊎ (fault.done ≡ fault.answered + 1)
    → (fault.answered ≡ length texts) ⊎ (fault.answered + 1 ≡ length texts)
so_many fault items texts many done (inl same) = inl (sym same ∙ (done ∙ sym many))
so_many fault items texts many done (inr more) = inr (sym more ∙ (done ∙ sym many))

module _ {S : Type 0} (g : Ghosts S) (first last : Held S) (was_left left held holds : Option (List ℕ)) where
  abbrev pub was : Traffic
  was = record { input = was_left; output = held }

  abbrev pub now : Traffic
  now = record { input = left; output = holds }

  -- the moments of the replay: at first, and when the output held this
  abbrev pub before : Moment S
  before = record { office = first; input = was_left; output = held }

  abbrev pub after : Option (List ℕ) → Moment S
  after output = record { office = last; input = left; output = output }

  answered : (items : List DeskRequest) (rest : List ℕ) (has : HasAnswered g before (after holds) items rest) → AreAnsweredBy items has.texts rest was now
  answered items rest has = record {
    gives = subst (Consumes was_left left) has.records.text has.reads;
    each = has.records.each;
    few = has.records.few;
    as_many = as_many g items has.texts first last has.answers;
  }

  -- the answers are written, and then the output hands them on or fails to
  pub ended : {T : Type 0} (r : Result T CommandFault) (mid : Option (List ℕ)) (items : List DeskRequest) → IfErr r (λ fault. fault ≡ Failed Device (Some Output))
      → HasAnswered g before (after mid) items [] → IsAtEnd left → Keeps mid holds → Comes g first last r was now
  ended {T} r mid items fails has at_end kept = go r fails
    where
      handed : HasAnswered g before (after holds) items []
      handed = record { given = has.given; texts = has.texts; reads = has.reads; records = has.records; answers = has.answers; writes = Appends-kept held mid holds (answer_texts has.texts) has.writes kept }

      deeds : List Deed
      deeds = deeds_of_records items has.texts

      done : AreDone g deeds first last
      done = records_are_done g items has.texts first last has.answers

      go : (r : Result T CommandFault) → IfErr r (λ fault. fault ≡ Failed Device (Some Output)) → Comes g first last r was now
      go (Ok x) fails = (deeds, (items, has.texts, answered items [] handed, refl, at_end, handed.writes), done)
      go (Err fault) is =
          subst (λ (f : CommandFault). Comes {T = T} g first last (Err f) was now) (sym is) (deeds, (items, has.texts, [], answered items [] handed, refl, inl handed.writes), done)

  -- the replay stopped
  pub stopped : (T : Type 0) (fault : ReplayFault) (named : CommandFault) → named ≡ replay_failure fault.stop
      → Stopped g before (after holds) fault fault.stop → Comes {T = T} g first last (Err named) was now
  stopped T fault named is stop = subst (λ (f : CommandFault). Comes {T = T} g first last (Err f) was now) (sym is) (go fault.stop stop)
    where
      -- a device or memory failed at some record, and this is printed
      in_part : (kind : StoreFault) (cause : Option Cause) (items : List DeskRequest) (texts : List (List ℕ)) (has : HasDone g before (after holds) items texts)
          → ReplaysInPart (Failed kind cause) texts has.rest was now → Comes {T = T} g first last (Err (Failed kind cause)) was now
      in_part kind cause items texts has prints = (
        deeds_of_records items texts,
        (items, texts, has.rest, record { gives = has.reads; each = has.each; few = has.few; as_many = as_many g items texts first last has.answers }, refl, prints),
        records_are_done g items texts first last has.answers,
      )

      go : (at : ReplayStop) → Stopped g before (after holds) fault at → Comes {T = T} g first last (Err (replay_failure at)) was now
      go (stops.BadRecord index) it =
          let items = it.0 in
          let has = it.2 in
          (deeds_of_records items has.texts, (items, has.texts, it.1, answered items it.1 has, refl, it.3, has.records.ends, it.4, has.writes), records_are_done g items has.texts first last has.answers)
      go stops.Read it =
          let items = it.0 in
          let has = it.2 in
          (deeds_of_records items has.texts, (items, has.texts, it.1, answered items it.1 has, refl, (it.3, has.writes)), records_are_done g items has.texts first last has.answers)
      go stops.Write it =
          let many = as_many g it.0 it.1 first last it.3.answers in
          in_part Device (Some Output) it.0 it.1 it.3 (inr (fault.answered, it.2, sym it.7 ∙ (it.6 ∙ sym many), it.5, it.4))
      go stops.Memory it =
          let many = as_many g it.0 it.1 first last it.2.answers in
          let none_more : Appends held holds (answer_texts (take fault.answered it.1)) = subst (Appends held holds) (append-nil (answer_texts (take fault.answered it.1))) it.3 in
          in_part Memory None it.0 it.1 it.2 (fault.answered, so_many fault it.0 it.1 many it.4 it.5, none_more)
