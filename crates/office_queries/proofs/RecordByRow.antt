-- What the row of a deposit, with its due row, comes to.
use Rattle.office_queries.proofs.Common.{◌≡◌, ◌∙◌, ap, sym, refl, is_none, ℕ, Bool, true, false, Ok, Err, ok_or, answer_if, Option, Some, None, if◌then◌else◌, ◌>>=◌, DepositRecord, Due, DepositRow, description_of, TableFault, Memory, Store, has_names, Days}

-- where something is told, memory ran out
pub wants_memory : {A : Type 0} (told : Option A) (x : A) → told ≡ Some x → (fault : TableFault) → fault ≡ Memory → fault ≡ (if is_none told then Store else Memory)
wants_memory told x is fault memory = memory ∙ ap (λ o. if is_none o then Store else Memory) (sym is)

-- where nothing is told, the store failed
pub is_of_store : {A : Type 0} (told : Option A) → told ≡ None → (fault : TableFault) → fault ≡ Store → fault ≡ (if is_none told then Store else Memory)
is_of_store told is fault store = store ∙ ap (λ o. if is_none o then Store else Memory) (sym is)

-- an answer by a test is there where the test holds
pub held : {A : Type 0} (test : Bool) (answer x : A) → Ok x ≡ ok_or (answer_if test answer) Store → (test ≡ true) × (x ≡ answer)
held false answer x e = absurd cc
held true answer x e = (refl, cc)

-- and isn't where it fails
pub not_held : {A : Type 0} (test : Bool) (answer : A) (fault : TableFault) → Err fault ≡ ok_or (answer_if test answer) Store → (test ≡ false) × (fault ≡ Store)
not_held false answer fault e = (refl, cc)
not_held true answer fault e = absurd cc

-- by its parts, in the order in which they are read
abbrev pub record_of_parts : DepositRow → Option ℕ → Option Days → Option ℕ → Option ℕ → Option Due → Option DepositRecord
record_of_parts row numbered dated filed sized falling = do
  number ← numbered
  days ← dated
  files ← filed
  bytes ← sized
  due ← falling
  if has_names row then Some (record { number = number; description = description_of row days.closed; deposited = days.deposited; files = files; bytes = bytes; due = due }) else None
