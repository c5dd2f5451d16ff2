-- What is answered and noted, of all the bytes that there are.
use Rattle.desk_serving.proofs.Common.{◌≡◌, ◌<◌, ℕ, List, Bool, true, false, Option, Some, None, length, subst, sym, take, Result, Ok, Err, IfOk, IfSome, OnOk, Date, Held, state, Ghosts, HeardValue, Hears, answer_text, note_of, IsAnswered, IsHeardServed, IsNoted, ServesBytes, ServesNoted}
use Rattle.std.specs.Io.KnownBytes.{Appends}
use Rattle.office_core.specs.declared.answer.Answer.{Answer}
use Rattle.desk_log.specs.declared.note.OfficeNote.{OfficeNote}

-- what follows of a result
pub if_ok : {T E : Type 0} {P Q : T → Type 0} (result : Result T E) → IfOk result P → ((x : T) → P x → Q x) → IfOk result Q
if_ok (Ok x) is then = then x is
if_ok (Err e) is then = tt

pub on_ok : {T E P Q : Type 0} (result : Result T E) → OnOk result P → (P → Q) → OnOk result Q
on_ok (Ok x) is then = then is
on_ok (Err e) is then = tt

-- without what was noted of it
pub is_answered : {S : Type 0} (g : Ghosts S) (old new : Held S) (day : Date) (bytes text : List ℕ) (done : Bool) (note : Option OfficeNote)
    → IsNoted g (record { day = day; bytes = bytes }) (record { text = text; done = done; note = note }) old new → IsAnswered g (record { day = day; bytes = bytes }) (record { text = text; done = done }) old new
is_answered g old new day bytes text true _ it = (it.0, it.1.0, it.2)
is_answered g old new day bytes text false _ it = (it.0, it.1, it.2, it.3)

module _ {S : Type 0} (g : Ghosts S) (old new : Held S) (day : Date) (note : Option OfficeNote) where
  pub whole_answer : (all : Option (List ℕ)) (heard : HeardValue) (answer : Answer) (text : List ℕ) → IfSome all (λ input. Hears input (Ok heard)) → (it : IsHeardServed day heard (state g old) (state g new) answer)
      → note ≡ Some (note_of it.item.2 answer) → text ≡ answer_text answer → IfSome all (λ input. IsNoted g (record { day = day; bytes = input }) (record { text = text; done = true; note = note }) old new)
  whole_answer None heard answer text h s n e = tt
  whole_answer (Some input) heard answer text h s n e = (answer, ((heard, h, s), n), e)

  pub whole_served : (all : Option (List ℕ)) (heard : HeardValue) (answer : Answer) → IfSome all (λ input. Hears input (Ok heard)) → (it : IsHeardServed day heard (state g old) (state g new) answer)
      → note ≡ Some (note_of it.item.2 answer) → IfSome all (λ input. (given : Answer) × ServesNoted (record { day = day; bytes = input }) note (state g old) (state g new) given)
  whole_served None heard answer h s n = tt
  whole_served (Some input) heard answer h s n = (answer, ((heard, h, s), n))

  pub whole_written : (all output written : Option (List ℕ)) (done : Bool) (text bytes : List ℕ)
      → IfSome all (λ input. IsNoted g (record { day = day; bytes = input }) (record { text = text; done = done; note = note }) old new) → bytes ≡ text → Appends output written bytes
      → IfSome all (λ input. (answer : List ℕ) × (told : Bool) × IsNoted g (record { day = day; bytes = input }) (record { text = answer; done = told; note = note }) old new × Appends output written answer)
  whole_written None output written done text bytes answered same writes = tt
  whole_written (Some input) output written done text bytes answered same writes = (text, done, answered, subst (Appends output written) same writes)

  pub whole_begun : (all output written : Option (List ℕ)) (done told : Bool) (text bytes : List ℕ)
      → IfSome all (λ input. IsNoted g (record { day = day; bytes = input }) (record { text = text; done = done; note = note }) old new) → bytes ≡ text
      → ((count : ℕ) × (count < length bytes) × Appends output written (take count bytes)) → done ≡ told
      → IfSome all (λ input. (answer : List ℕ) × (count : ℕ) × IsNoted g (record { day = day; bytes = input }) (record { text = answer; done = told; note = note }) old new × (count < length answer) × Appends output written (take count answer))
  whole_begun None output written done told text bytes answered same part is = tt
  whole_begun (Some input) output written done told text bytes answered same part is = (
    bytes,
    part.0,
    subst (λ (d : Bool). IsNoted g (record { day = day; bytes = input }) (record { text = bytes; done = d; note = note }) old new) is
        (subst (λ (t : List ℕ). IsNoted g (record { day = day; bytes = input }) (record { text = t; done = done; note = note }) old new) (sym same) answered),
    part.1,
    part.2,
  )

  -- ---- without what was noted of it

  pub unnoted_served : (all : Option (List ℕ)) → IfSome all (λ input. (answer : Answer) × ServesNoted (record { day = day; bytes = input }) note (state g old) (state g new) answer)
      → IfSome all (λ input. (answer : Answer) × ServesBytes day input (state g old) (state g new) answer)
  unnoted_served None it = tt
  unnoted_served (Some input) it = (it.0, it.1.0)

  pub unnoted_written : (all output written : Option (List ℕ))
      → IfSome all (λ input. (text : List ℕ) × (done : Bool) × IsNoted g (record { day = day; bytes = input }) (record { text = text; done = done; note = note }) old new × Appends output written text)
      → IfSome all (λ input. (text : List ℕ) × (done : Bool) × IsAnswered g (record { day = day; bytes = input }) (record { text = text; done = done }) old new × Appends output written text)
  unnoted_written None output written it = tt
  unnoted_written (Some input) output written it = (it.0, it.1, is_answered g old new day input it.0 it.1 note it.2, it.3)

  pub unnoted_begun : (all output written : Option (List ℕ)) (done : Bool)
      → IfSome all (λ input. (text : List ℕ) × (count : ℕ) × IsNoted g (record { day = day; bytes = input }) (record { text = text; done = done; note = note }) old new × (count < length text) × Appends output written (take count text))
      → IfSome all (λ input. (text : List ℕ) × (count : ℕ) × IsAnswered g (record { day = day; bytes = input }) (record { text = text; done = done }) old new × (count < length text) × Appends output written (take count text))
  unnoted_begun None output written done it = tt
  unnoted_begun (Some input) output written done it = (it.0, it.1, is_answered g old new day input it.0 done note it.2, it.3, it.4)
