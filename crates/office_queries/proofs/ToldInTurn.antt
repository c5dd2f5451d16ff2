-- What is told of rows, one after another, where each may tell nothing.
use Rattle.office_queries.proofs.Common.{◌≡◌, ℕ, ◌+◌, ◌<◌, List, [], ◌∷◌, ◌++◌, length, map, take, get_or, Option, Some, None, refl, sym, ap, subst, ◌∙◌, arith, Ok, MutBor, cons_option, map_more, take_more, take_all, same_Some, Ghosts, HasCleanDisk, Held, state, Date, ◌>>=◌, Action, some_and_then, Tables, GoesOnInside, GoesOnInTurn, Shows, IsOffice, tables_of, TableFault, clean_first, in_turn, turn_as, turn_then, all_told, things_told, office_still, told_before, AreFor}
use Rattle.office_queries.specs.declared.allowances.Allowances.{Allowances}

-- ---- one thing of each, or nothing to tell

module _ {A B : Type 0} (tell : A → Option (Option B)) where
  -- one row more
  things_more : (xs : List A) (told : List B) (x : A) (one : Option B) → things_told tell xs ≡ Some told → tell x ≡ Some one → things_told tell (xs ++ x ∷ []) ≡ Some (told ++ cons_option one [])
  things_more [] told x one all is = (λ i. is i >>= λ o. Some (cons_option o [])) ∙ ap (λ ys. Some (ys ++ cons_option one [])) (same_Some _ _ all)
  things_more (y ∷ xs) told x one all is =
      let first = some_and_then (tell y) (λ o. things_told tell xs >>= λ others. Some (cons_option o others)) told all in
      let rest = some_and_then (things_told tell xs) (λ others. Some (cons_option first.0 others)) told first.2 in
      (λ i. first.1 i >>= λ o. things_more xs rest.0 x one rest.1 is i >>= λ others. Some (cons_option o others))
      ∙ ap Some (moved first.0 rest.0)
      ∙ ap (λ ys. Some (ys ++ cons_option one [])) (same_Some _ _ rest.2)
    where
      moved : (o : Option B) (others : List B) → cons_option o (others ++ cons_option one []) ≡ cons_option o others ++ cons_option one []
      moved None others = refl
      moved (Some z) others = refl

  -- the next row
  things_next : (xs : List A) (i : ℕ) (d : A) → i < length xs → (before : List B) → things_told tell (take i xs) ≡ Some before → (one : Option B) → tell (get_or xs i d) ≡ Some one
      → (after : List B) → after ≡ before ++ cons_option one [] → things_told tell (take (i + 1) xs) ≡ Some after
  things_next xs i d low before all one is after e = ap (things_told tell) (take_more xs i d low) ∙ things_more (take i xs) before (get_or xs i d) one all is ∙ ap Some (sym e)

  -- all rows
  things_all : (xs : List A) (i : ℕ) → i ≡ length xs → (told : List B) → things_told tell (take i xs) ≡ Some told → things_told tell xs ≡ Some told
  things_all xs i is told e = ap (things_told tell) (sym (ap (λ n. take n xs) is ∙ take_all (length xs) xs (omega arith))) ∙ e

-- the same where the rules are asked in turn, and what they say is known from then on: so much is told of these rows
pub record AreTold {A B S : Type 0} (action : Action) (tell : Tables → List ℕ → Date → A → Option (Option B)) (g : Ghosts S) (old now : MutBor (Held S)) (role : List ℕ) (day : Date) (known : Allowances) (xs : List A) (told : List B) : Type 0 where
  pub inside : GoesOnInTurn {T = Unit {0}} g old now (Ok tt)
  pub reads : HasCleanDisk (state g now.now) → IsOffice (state g old.now).now
      → ((state g now.now).now ≡ (state g old.now).now) × AreFor (tables_of (state g old.now).now) role day action known × (things_told (tell (tables_of (state g old.now).now) role day) xs ≡ Some told)

-- this is told of a row
abbrev pub IsTold : {A B : Type 0} → Action → (Tables → List ℕ → Date → A → Option (Option B)) → Allowances → Allowances → A → Option B → Tables → Type 0
IsTold action tell known more x one t = (role : List ℕ) (day : Date) → AreFor t role day action known → AreFor t role day action more × (tell t role day x ≡ Some one)

module _ {A B S : Type 0} (action : Action) (tell : Tables → List ℕ → Date → A → Option (Option B)) {g : Ghosts S} {old mid : MutBor (Held S)} (role : List ℕ) (day : Date) {known : Allowances} where
  -- before the first row
  pub none_told : GoesOnInside g old mid (Ok known) → Shows {E = TableFault} g old.now mid.now (Ok known) (λ t known. AreFor t role day action known) → (told : List B) → told ≡ [] → AreTold action tell g old mid role day known [] told
  none_told before reads told none = record { inside = turn_as (in_turn before) _ tt; reads = λ clean office. let read = reads clean office in (read.0, read.1, ap Some (sym none)) }

  -- the next row
  pub told_next : {new : MutBor (Held S)} {one : Option B} (more : Allowances) (xs : List A) (i : ℕ) (x : A) → i < length xs → x ≡ get_or xs i x → (before after : List B) → after ≡ before ++ cons_option one []
      → AreTold action tell g old mid role day known (take i xs) before → GoesOnInTurn g mid new (Ok one) → Shows {E = TableFault} g mid.now new.now (Ok one) (λ t one. IsTold action tell known more x one t)
      → AreTold action tell g old new role day more (take (i + 1) xs) after
  told_next {one = one} more xs i x low item before after is so_far turn reads = record {
    inside = turn_as (turn_then so_far.inside turn) _ tt;
    reads = λ clean office.
        let first = so_far.reads (clean_first turn.stays clean) office in
        let found = reads clean (office_still first.0 office) in
        let said = told_before first.0 (IsTold action tell known more x one) found.1 role day first.1 in
        let tells = tell (tables_of (state g old.now).now) role day in
        (found.0 ∙ first.0, said.0, things_next tells xs i x low before first.2 one (subst (λ x. tells x ≡ Some one) item said.1) after is);
  }

  -- after the last
  pub told_of_all : (xs : List A) (i : ℕ) → i ≡ length xs → (told : List B) → AreTold action tell g old mid role day known (take i xs) told → Shows {E = TableFault} g old.now mid.now (Ok told) (λ t told. things_told (tell t role day) xs ≡ Some told)
  told_of_all xs i is told it clean office = let read = it.reads clean office in (read.0, things_all (tell (tables_of (state g old.now).now) role day) xs i is told read.2)

-- ---- one thing of each

module _ {A B : Type 0} (tell : A → Option B) where
  all_more : (xs : List A) (told : List B) (x : A) (one : B) → all_told tell xs ≡ Some told → tell x ≡ Some one → all_told tell (xs ++ x ∷ []) ≡ Some (told ++ one ∷ [])
  all_more [] told x one all is = (λ i. is i >>= λ z. Some (z ∷ [])) ∙ ap (λ ys. Some (ys ++ one ∷ [])) (same_Some _ _ all)
  all_more (y ∷ xs) told x one all is =
      let first = some_and_then (tell y) (λ z. all_told tell xs >>= λ others. Some (z ∷ others)) told all in
      let rest = some_and_then (all_told tell xs) (λ others. Some (first.0 ∷ others)) told first.2 in
      (λ i. first.1 i >>= λ z. all_more xs rest.0 x one rest.1 is i >>= λ others. Some (z ∷ others))
      ∙ ap (λ ys. Some (ys ++ one ∷ [])) (same_Some _ _ rest.2)

  -- of the next of these
  pub all_next : {K : Type 0} (of : K → A) (ks : List K) (i : ℕ) (d : K) → i < length ks → (before : List B) → all_told tell (map of (take i ks)) ≡ Some before → (one : B) → tell (of (get_or ks i d)) ≡ Some one
      → all_told tell (map of (take (i + 1) ks)) ≡ Some (before ++ one ∷ [])
  all_next of ks i d low before all one is = ap (all_told tell) (map_more of ks i d low) ∙ all_more (map of (take i ks)) before (of (get_or ks i d)) one all is
