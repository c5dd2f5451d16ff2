-- Steps that may fail, one after the other, and what a call answers unless memory runs out.
use Rattle.std.specs.Prelude.{◌≡◌, Option, Some, None, Result, Ok, Err}

infixl 10 ◌>>=◌
abbrev pub ◌>>=◌ : {A B E : Type 0} → Result A E → (A → Result B E) → Result B E
(Ok x) >>= f = f x
(Err e) >>= f = Err e

-- The fault that an answer names is the one that reading fails with. Where memory ran out it names none, and
-- says nothing of what is read.
abbrev pub FailsAs : {Y F : Type 0} → Option F → Result Y F → Type 0
FailsAs None read = Unit {0}
FailsAs (Some fault) read = read ≡ Err fault

-- A result is what reading gives, seen by a view, unless memory ran out: `named` is the fault that
-- an error names, none where memory ran out.
abbrev pub Gives : {X Y E F : Type 0} → (E → Option F) → (X → Y) → Result X E → Result Y F → Type 0
Gives named view (Ok x) read = read ≡ Ok (view x)
Gives named view (Err e) read = FailsAs (named e) read

-- a result is this, unless memory ran out
abbrev pub Answers : {Y E F : Type 0} → (E → Option F) → Result Y E → Result Y F → Type 0
Answers named result wanted = Gives named (λ found. found) result wanted
