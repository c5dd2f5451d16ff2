-- What the rows tell by the calls that read them, whichever rows they are.
use Rattle.office_access.proofs.Common.{◌≡◌, ℕ, ℤ, pos, List, [], ◌∷◌, map, slice_get, Option, Some, None, IfErr, IfOk, MatchOption, OnOk, Result, Ok, Err, sym, ap, subst, ◌∙◌, refl, same_Some, ok_or, Database, Tables, IsOffice, tables_of}

-- a call that changes no row leaves an office, and what is told of the rows after it is told of those before it
module _ {old mid : Database} (same : mid ≡ old) where
  pub office_still : IsOffice old → IsOffice mid
  office_still = subst IsOffice (sym same)

  pub told_before : (is_so : Tables → Type 0) → is_so (tables_of mid) → is_so (tables_of old)
  told_before is_so = subst (λ (db : Database). is_so (tables_of db)) same

-- what has to be there is what is found
pub there_is : {T E : Type 0} (found : Option T) (fault : E) (x : T) → Ok x ≡ ok_or found fault → Some x ≡ found
there_is None fault x e = absurd cc
there_is (Some y) fault x e = cc

-- what is so of all that may be found is so of what has to be there
pub there_told : {T E : Type 0} {is_so : T → Type 0} (found : Option T) (fault : E) (result : Result T E) → result ≡ ok_or found fault → ((x : T) → Some x ≡ found → is_so x) → IfOk result is_so
there_told {is_so = is_so} None fault result is so = subst (λ r. IfOk r is_so) (sym is) tt
there_told {is_so = is_so} (Some x) fault result is so = subst (λ r. IfOk r is_so) (sym is) (so x refl)

-- the first of some numbers is the first of what they are
pub first_of : (k : ℕ) (numbers : List ℕ) (live : List ℤ) → map pos numbers ≡ live → Some k ≡ slice_get numbers 0 → (others : List ℤ) × (live ≡ pos k ∷ others)
first_of k [] live are first = absurd cc
first_of k (m ∷ numbers) live are first = (map pos numbers, sym are ∙ ap (λ x. pos x ∷ map pos numbers) (same_Some _ _ (sym first)))

-- there are none of them where there is no first
pub none_of : (numbers : List ℕ) (live : List ℤ) → map pos numbers ≡ live → None ≡ slice_get numbers 0 → live ≡ []
none_of [] live are none = sym are
none_of (m ∷ numbers) live are none = absurd cc

-- what is so where a call is Ok is so beside what is so of its answer
pub ok_both : {E V : Type 0} {P : Type 0} {Q R : V → Type 0} (result : Result V E) → ((v : V) → P → Q v → R v) → OnOk result P → IfOk result Q → IfOk result R
ok_both (Ok value) both first second = both value first second
ok_both (Err fault) both first second = tt

-- what is so of what is found is so where something is
pub found_told : {T : Type 0} (none : Type 0) (is_so : T → Type 0) (found : Option T) (x : T) → Some x ≡ found → MatchOption found none is_so → is_so x
found_told none is_so found x some = subst (λ o. MatchOption o none is_so) (sym some)

-- what is not there fails with this fault alone
pub only_that : {T E : Type 0} (found : Option T) (fault : E) (result : Result T E) → result ≡ ok_or found fault → IfErr result (λ told. told ≡ fault)
only_that (Some x) fault result is = subst (λ r. IfErr r (λ told. told ≡ fault)) (sym is) tt
only_that None fault result is = subst (λ r. IfErr r (λ told. told ≡ fault)) (sym is) refl
