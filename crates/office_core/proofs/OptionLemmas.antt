-- What a chain of readings that may fail gives.
use Rattle.office_core.proofs.Common.{◌≡◌, Bool, true, false, Option, Some, None, Result, Ok, Err, IsOk, IfOk, IsSome, IfSome, IsSomeAnd, option_map, refl, if◌then◌else◌, List, [], ◌∷◌, find, same_Some, false≢true, ◌>>=◌, first_some, answer_if, subst}
pub use Rattle.bag_text.proofs.CaseLemmas.{by_Bool, by_Option, by_Ordering}
use Rattle.std.specs.Result.{result_ok}

-- a result that is there is there as an option
pub some_ok : {A E : Type 0} (o : Option A) (r : Result A E) → o ≡ result_ok r → IsOk r → IsSome o
some_ok o (Ok x) e h = rw e refl
some_ok o (Err x) e h = absurd (false≢true h)

pub some_and_ok : {A E : Type 0} (P : A → Type 0) (o : Option A) (r : Result A E) → o ≡ result_ok r → IsOk r → IfOk r P → IsSomeAnd o P
some_and_ok P o (Ok x) e h p = rw e p
some_and_ok P o (Err x) e h p = absurd (false≢true h)

pub some_if : {A : Type 0} (b : Bool) (o : Option A) (x : A) → (if b then o else None) ≡ Some x → (b ≡ true) × (o ≡ Some x)
some_if true o x e = (refl, e)
some_if false o x e = cc

pub some_and_then : {A B : Type 0} (o : Option A) (f : A → Option B) (y : B) → (o >>= f) ≡ Some y → (x : A) × (o ≡ Some x) × (f x ≡ Some y)
some_and_then (Some x) f y e = (x, refl, e)
some_and_then None f y e = cc

-- what is there under a function is there before it
pub option_map_some : {A B P : Type 0} (f : A → B) (o : Option A) (y : B) → option_map f o ≡ Some y → ((x : A) → o ≡ Some x → f x ≡ y → P) → P
option_map_some f (Some x) y e k = k x refl (same_Some _ _ e)
option_map_some f None y e k = cc

pub option_map_none : {A B : Type 0} (f : A → B) (o : Option A) → option_map f o ≡ None → o ≡ None
option_map_none f None e = refl
option_map_none f (Some x) e = absurd cc

-- nothing is there where the first of all is not there
pub none_of : {A : Type 0} (o : Option A) (os : List (Option A)) → first_some (o ∷ os) ≡ None → (o ≡ None) × (first_some os ≡ None)
none_of None os e = (refl, e)
none_of (Some x) os e = absurd cc

-- an answer that isn't there is asked for by no test
pub answer_if_none : {A : Type 0} (test : Bool) (answer : A) → answer_if test answer ≡ None → test ≡ false
answer_if_none false answer e = refl
answer_if_none true answer e = absurd cc

pub IfSome_from : {A : Type 0} {P : A → Type 0} (o : Option A) → ((x : A) → o ≡ Some x → P x) → IfSome o P
IfSome_from (Some x) f = f x refl
IfSome_from None f = tt

-- what is found passes the test
pub find_some : {A : Type 0} (p : A → Bool) (xs : List A) (x : A) → find p xs ≡ Some x → p x ≡ true
find_some p [] x e = cc
find_some p (y ∷ ys) x e = by_Bool (p y) (λ hit. subst (λ z. p z ≡ true) (same_Some _ _ (rw hit at e)) hit) (λ miss. find_some p ys x (rw miss at e))
