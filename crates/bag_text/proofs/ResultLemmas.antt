-- Steps that may fail, one after the other, and what is answered of them.
use Rattle.bag_text.proofs.Common.{is_some, Bool, false, cond, ◌≡◌, ◌⊎◌, inl, inr, true, List, [], ◌∷◌, ◌++◌, refl, sym, ap, append_assoc, Option, Some, None, Result, Ok, Err, append-nil, ◌>>=◌, FailsAs, is_none}

-- where two steps succeed each does
pub bind_ok : {A B F : Type 0} (r : Result A F) (k : A → Result B F) (b : B) → (r >>= k) ≡ Ok b → (x : A) × (r ≡ Ok x) × (k x ≡ Ok b)
bind_ok (Ok x) k b e = (x, refl, e)
bind_ok (Err f) k b e = absurd cc

-- where they fail the first does, or the second with its value
pub bind_err : {A B F : Type 0} (r : Result A F) (k : A → Result B F) (f : F) → (r >>= k) ≡ Err f → (r ≡ Err f) ⊎ ((x : A) × (r ≡ Ok x) × (k x ≡ Err f))
bind_err (Ok x) k f e = inr (x, refl, e)
bind_err (Err g) k f e = inl cc

-- where a test lets one answer through alone, it came out so
pub some_if : {A : Type 0} (b : Bool) (o : Option A) (x : A) → cond b o None ≡ Some x → (b ≡ true) × (o ≡ Some x)
some_if true o x e = (refl, e)
some_if false o x e = absurd cc

pub ok_if : {A F : Type 0} (b : Bool) (r : Result A F) (f : F) (x : A) → cond b r (Err f) ≡ Ok x → (b ≡ true) × (r ≡ Ok x)
ok_if true r f x e = (refl, e)
ok_if false r f x e = absurd cc

pub ok_unless : {A F : Type 0} (b : Bool) (f : F) (r : Result A F) (x : A) → cond b (Err f) r ≡ Ok x → (b ≡ false) × (r ≡ Ok x)
ok_unless true f r x e = absurd cc
ok_unless false f r x e = (refl, e)

pub err_if : {A F : Type 0} (b : Bool) (f : F) (x : A) (g : F) → cond b (Err f) (Ok x) ≡ Err g → (b ≡ true) × (f ≡ g)
err_if true f x g e = (refl, cc)
err_if false f x g e = absurd cc

pub err_unless : {A F : Type 0} (b : Bool) (x : A) (f g : F) → cond b (Ok x) (Err f) ≡ Err g → (b ≡ false) × (f ≡ g)
err_unless true x f g e = absurd cc
err_unless false x f g e = (refl, cc)

-- what is made of a step's value has the step's fault
pub err_through : {A B F : Type 0} (r : Result A F) (h : A → B) (f : F) → (r >>= λ x. Ok (h x)) ≡ Err f → r ≡ Err f
err_through (Ok x) h f e = absurd cc
err_through (Err g) h f e = cc

-- a step has one value
pub same_ok : {A E : Type 0} (x y : A) (r : Result A E) → r ≡ Ok x → r ≡ Ok y → x ≡ y
same_ok x y (Ok z) e f = cc
same_ok x y (Err z) e f = absurd cc

-- a step has one fault
pub same_err : {A E : Type 0} (x y : E) (r : Result A E) → r ≡ Err x → r ≡ Err y → x ≡ y
same_err x y (Ok z) e f = absurd cc
same_err x y (Err z) e f = cc

-- the same, of steps that are told
pub ok_is : {A E : Type 0} (x y : A) → ◌≡◌ {A = Result A E} (Ok x) (Ok y) → x ≡ y
ok_is x y e = cc

pub err_is : {A E : Type 0} (x y : E) → ◌≡◌ {A = Result A E} (Err x) (Err y) → x ≡ y
err_is x y e = cc

-- no step both succeeds and fails
pub never_both : {A E : Type 0} (x : A) (y : E) (r : Result A E) → r ≡ Ok x → r ≡ Err y → ⊥
never_both x y (Ok z) e f = absurd cc
never_both x y (Err z) e f = absurd cc

-- where a step's fault is that of all steps, so is the fault that an answer names of it
pub fails_on : {A B F : Type 0} (named : Option F) (step : Result A F) (total : Result B F) → ((f : F) → step ≡ Err f → total ≡ Err f) → FailsAs named step → FailsAs named total
fails_on None step total on e = tt
fails_on (Some f) step total on e = on f e

-- what is none
pub no_value : {A : Type 0} (o : Option A) → is_some o ≡ false → o ≡ None
no_value None e = refl
no_value (Some x) e = absurd cc

pub is_nothing : {A : Type 0} (o : Option A) → is_none o ≡ true → o ≡ None
is_nothing None e = refl
is_nothing (Some x) e = absurd cc

-- ---- item after item

-- what was read before, and what is still read
abbrev pub fronted : {A E : Type 0} → List A → Result (List A) E → Result (List A) E
fronted front read = read >>= λ xs. Ok (front ++ xs)

-- what is read goes to what was read before
pub again_onto : {A E : Type 0} (front : List A) (x : A) (r : Result (List A) E) → fronted front (r >>= λ xs. Ok (x ∷ xs)) ≡ fronted (front ++ x ∷ []) r
again_onto {A = A} front x (Ok xs) = ap (λ (t : List A). Ok t) (sym (append_assoc front (x ∷ []) xs))
again_onto front x (Err e) = refl

-- nothing is left to be read
pub nothing_onto : {A E : Type 0} (front : List A) → fronted {E = E} front (Ok []) ≡ Ok front
nothing_onto {A = A} front = ap (λ (t : List A). Ok t) (append-nil front)
