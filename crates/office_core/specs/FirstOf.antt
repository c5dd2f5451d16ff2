-- Answers that may not be there: what follows from one, and the first of some that is there.
use Rattle.std.specs.Prelude.{Bool, List, [], ◌∷◌, Option, Some, None, if◌then◌else◌}

-- what follows from an answer that is there
infixl 10 ◌>>=◌
abbrev pub ◌>>=◌ : {A B : Type 0} → Option A → (A → Option B) → Option B
(Some x) >>= f = f x
None >>= f = None

-- the first of some answers that is there
abbrev pub first_some : {A : Type 0} → List (Option A) → Option A
first_some [] = None
first_some (Some x ∷ more) = Some x
first_some (None ∷ more) = first_some more

-- an answer where a test holds
abbrev pub answer_if : {A : Type 0} → Bool → A → Option A
answer_if test answer = if test then Some answer else None
