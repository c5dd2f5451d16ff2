-- An ask answers all that the input has; one that fails has done nothing, or has answered and written a beginning of the answer.
use Rattle.office_commands.proofs.Common.{◌≡◌, ◌<◌, ℕ, List, [], Bool, true, false, Option, Some, None, Result, Ok, Err, IfErr, IfSome, ◌∷◌, inl, inr, length, take, refl, sym, ap, subst, Appends-kept, Appends, Consumes, Keeps, Date, Held, state, Ghosts, Answer, IsAnswered, ServesBytes, AreDone, Deed, answers, ComesOfAsk, all_input, desk_failure, Output, CommandFault, Failed}
use Rattle.std.proofs.Math.Seq.{take-length}
use Rattle.desk_routes.specs.declared.refusal.DeskRefusal.TheVariants.{Truncated}
use Rattle.desk_hearing.specs.Hearing.{Hears}
use Rattle.desk_answers.specs.Answers.{answer_text}
use Rattle.desk_serving.specs.declared.serving.DeskFault.{DeskFault}
use Rattle.desk_serving.specs.declared.serving.DeskFault.TheVariants.{Read, Write, Memory}
use Rattle.office_stores.specs.declared.fault.StoreFault.TheVariants.{Device}
use Rattle.office_commands.proofs.PrintingLemmas.{appends_nothing}

-- the bytes that the input gives, and no fewer than it had, are answered with this text
abbrev pub IsHeard : {S : Type 0} → Ghosts S → Date → Held S → Held S → Option (List ℕ) → Option (List ℕ) → List ℕ → Type 0
IsHeard g day old new was_left left text = (given : List ℕ) × (done : Bool) × Consumes was_left left given × IsAnswered g (record { day = day; bytes = all_input was_left given }) (record { text = text; done = done }) old new

-- and the text is written
abbrev pub Whole : {S : Type 0} → Ghosts S → Date → Held S → Held S → Option (List ℕ) → Option (List ℕ) → Option (List ℕ) → Option (List ℕ) → Type 0
Whole g day old new was_left left held holds = (text : List ℕ) × IsHeard g day old new was_left left text × Appends held holds text

-- the output failed, and has a beginning of the text
abbrev pub Begun : {S : Type 0} → Ghosts S → Date → Held S → Held S → Option (List ℕ) → Option (List ℕ) → Option (List ℕ) → Option (List ℕ) → Type 0
Begun g day old new was_left left held holds = (text : List ℕ) × (count : ℕ) × IsHeard g day old new was_left left text × Appends held holds (take count text)

module _ {S : Type 0} (g : Ghosts S) (day : Date) (old new : Held S) (was_left left : Option (List ℕ)) where
  abbrev pub Comes : {T : Type 0} → Result T CommandFault → Option (List ℕ) → Option (List ℕ) → Type 0
  Comes r held holds = (deeds : List Deed) × ComesOfAsk day r deeds (record { input = was_left; output = held }) (record { input = left; output = holds }) × AreDone g deeds old new

  -- what the input gave is answered, and all that it had
  pub asks : (held holds : Option (List ℕ)) (given text : List ℕ) (done : Bool) → Consumes was_left left given → IsAnswered g (record { day = day; bytes = given }) (record { text = text; done = done }) old new → Appends held holds text
      → IfSome was_left (λ input. (text : List ℕ) × (done : Bool) × IsAnswered g (record { day = day; bytes = input }) (record { text = text; done = done }) old new × Appends held holds text) → Whole g day old new was_left left held holds
  asks held holds given text done reads answered writes all = go was_left reads all
    where
      go : (known : Option (List ℕ)) → Consumes known left given → IfSome known (λ input. (text : List ℕ) × (done : Bool) × IsAnswered g (record { day = day; bytes = input }) (record { text = text; done = done }) old new × Appends held holds text)
          → Whole g day old new known left held holds
      go None reads all = (text, (given, done, reads, answered), writes)
      go (Some input) reads all = (all.0, (given, all.1, reads, all.2), all.3)

  -- the answer is written, and then the output hands it on or fails to
  pub handed_on : {T : Type 0} (r : Result T CommandFault) (held mid holds : Option (List ℕ)) → IfErr r (λ fault. fault ≡ Failed Device (Some Output)) → Whole g day old new was_left left held mid
      → Keeps mid holds → Comes r held holds
  handed_on (Ok x) held mid holds fails it kept =
      let asked = it.1 in
      (answers day (all_input was_left asked.0) it.0 ∷ [], (it.0, (asked.0, asked.2, refl), Appends-kept held mid holds it.0 it.2 kept), (new, (asked.1, asked.3), refl))
  handed_on {T = T} (Err fault) held mid holds is it kept =
      let asked = it.1 in
      subst (λ (f : CommandFault). Comes {T = T} (Err f) held holds) (sym is) (
        answers day (all_input was_left asked.0) it.0 ∷ [],
        (it.0, (asked.0, asked.2, refl), (length it.0, subst (Appends held holds) (sym (take-length it.0)) (Appends-kept held mid holds it.0 it.2 kept))),
        (new, (asked.1, asked.3), refl),
      )

  -- memory ran out after the answer
  unwritten : (given : List ℕ) (answer : Answer) → Consumes was_left left given → ServesBytes day given (state g old) (state g new) answer
      → IfSome was_left (λ input. (answer : Answer) × ServesBytes day input (state g old) (state g new) answer) → (text : List ℕ) × IsHeard g day old new was_left left text
  unwritten given answer reads serves all = go was_left reads all
    where
      go : (known : Option (List ℕ)) → Consumes known left given → IfSome known (λ input. (answer : Answer) × ServesBytes day input (state g old) (state g new) answer)
          → (text : List ℕ) × IsHeard g day old new known left text
      go None reads all = (answer_text answer, (given, true, reads, (answer, serves, refl)))
      go (Some input) reads all = (answer_text all.0, (given, true, reads, (all.0, all.1, refl)))

  -- the output failed in the answer
  begun : (held holds : Option (List ℕ)) (given text : List ℕ) (count : ℕ) (done : Bool) → Consumes was_left left given → IsAnswered g (record { day = day; bytes = given }) (record { text = text; done = done }) old new → Appends held holds (take count text)
      → IfSome was_left (λ input. (text : List ℕ) × (count : ℕ) × IsAnswered g (record { day = day; bytes = input }) (record { text = text; done = done }) old new × (count < length text) × Appends held holds (take count text))
      → Begun g day old new was_left left held holds
  begun held holds given text count done reads answered writes all = go was_left reads all
    where
      go : (known : Option (List ℕ)) → Consumes known left given
          → IfSome known (λ input. (text : List ℕ) × (count : ℕ) × IsAnswered g (record { day = day; bytes = input }) (record { text = text; done = done }) old new × (count < length text) × Appends held holds (take count text))
          → Begun g day old new known left held holds
      go None reads all = (text, count, (given, done, reads, answered), writes)
      go (Some input) reads all = (all.0, all.1, (given, done, reads, all.2), all.4)

  -- the desk fails
  pub in_part : {T W : Type 0} (T' : Type 0) (was now : W) (contents : W → Option (List ℕ)) (r : Result T DeskFault) (fault : DeskFault) → r ≡ Err fault
      → (r ≡ Err Read → (given : List ℕ) × Consumes was_left left given × Hears given (Err Truncated) × (new ≡ old) × (now ≡ was))
      → (r ≡ Err (Memory false) → (new ≡ old) × (now ≡ was))
      → (r ≡ Err (Memory true) → (given : List ℕ) × (answer : Answer) × Consumes was_left left given × ServesBytes day given (state g old) (state g new) answer × (now ≡ was))
      → (r ≡ Err (Memory true) → IfSome was_left (λ input. (answer : Answer) × ServesBytes day input (state g old) (state g new) answer))
      → ((done : Bool) → r ≡ Err (Write done) → (given text : List ℕ) × (count : ℕ) × Consumes was_left left given × IsAnswered g (record { day = day; bytes = given }) (record { text = text; done = done }) old new × Appends (contents was) (contents now) (take count text))
      → ((done : Bool) → r ≡ Err (Write done) → IfSome was_left (λ input. (text : List ℕ) × (count : ℕ) × IsAnswered g (record { day = day; bytes = input }) (record { text = text; done = done }) old new × (count < length text)
      × Appends (contents was) (contents now) (take count text)))
      → Comes {T = T'} (Err (desk_failure fault)) (contents was) (contents now)
  in_part T' was now contents r Read is read unserved served all written all_written =
      let it = read is in ([], ((it.0, it.1, it.2), refl, appends_nothing (contents was) (contents now) (ap contents it.4)), it.3)
  in_part T' was now contents r (Memory false) is read unserved served all written all_written =
      let it = unserved is in ([], (inl refl, appends_nothing (contents was) (contents now) (ap contents it.1)), it.0)
  in_part T' was now contents r (Memory true) is read unserved served all written all_written =
      let it = served is in
      let heard = unwritten it.0 it.1 it.2 it.3 (all is) in
      let asked = heard.1 in (
        answers day (all_input was_left asked.0) heard.0 ∷ [],
        (inr (heard.0, (asked.0, asked.2, refl)), appends_nothing (contents was) (contents now) (ap contents it.4)),
        (new, (asked.1, asked.3), refl),
      )
  in_part T' was now contents r (Write done) is read unserved served all written all_written =
      let it = written done is in
      let part = begun (contents was) (contents now) it.0 it.1 it.2 done it.3 it.4 it.5 (all_written done is) in
      let asked = part.2 in
      (answers day (all_input was_left asked.0) part.0 ∷ [], (part.0, (asked.0, asked.2, refl), (part.1, part.3)), (new, (asked.1, asked.3), refl))

  -- what the desk's fault is reported as
  pub told_as : (T : Type 0) (held holds : Option (List ℕ)) (named fault : CommandFault) → named ≡ fault → Comes {T = T} (Err fault) held holds → Comes {T = T} (Err named) held holds
  told_as T held holds named fault is it = subst (λ (f : CommandFault). Comes {T = T} (Err f) held holds) (sym is) it
