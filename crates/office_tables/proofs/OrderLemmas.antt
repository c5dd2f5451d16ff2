-- The rows of an office are in order.
use Rattle.office_tables.proofs.FirstLemmas.{◌≡◌, ◌≤ℤ◌, ℕ, ℤ, Bool, true, false, List, [], ◌∷◌, map, find, None, Some, Less, refl, sym, subst, ◌∙◌, inl, inr, arith, AllByRecursion, int_cmp, cases_Bool, ints, same_Some, Row, value_cmp, rowid, IsAscending, Database, IsShaped, Has, all_has, int_at, NumbersRise, AreInOrder, live_holds, deposit_tree, hold_tree, rule_tree, IsOffice, tables_of, deposit_in, hold_in, rule_in, of_deposits, of_holds, of_rules, IsNumbered, same_order}
use Rattle.sqlite_trees.specs.declared.store.Shape.TheVariants as shape
use Rattle.office_tables.proofs.HoldLemmas.{live_rise}

-- rows that ascend by their rowids ascend by what is decoded from these
module _ {Y : Type 0} (decode : Row → Y) (number : Y → ℤ) (numbers : (r : Row) → number (decode r) ≡ int_at r 0) where
  lower_than_each : (a : Row) (rows : List Row) → IsNumbered a → AllByRecursion IsNumbered rows → AllByRecursion (λ b. value_cmp (rowid a) (rowid b) ≡ Less) rows
      → AllByRecursion (λ s. int_cmp (number (decode a)) (number s) ≡ Less) (map decode rows)
  lower_than_each a [] whole others less = tt
  lower_than_each a (b ∷ rows) whole others less = (same_order decode number numbers a b whole others.0 ∙ less.0, lower_than_each a rows whole others.1 less.1)

  rises : (rows : List Row) → IsShaped shape.Table rows → NumbersRise number (map decode rows)
  rises [] shaped = tt
  rises (r ∷ rows) shaped = (lower_than_each r rows shaped.1.0 shaped.1.1 shaped.0.0, rises rows (shaped.0.1, shaped.1.1))

pub in_order : (db : Database) → IsOffice db → AreInOrder (tables_of db)
in_order db office = record {
  deposits = rises deposit_in (λ d. d.number) (λ r. refl) (db.trees deposit_tree) (of_deposits office.whole.shaped);
  holds = rises hold_in (λ h. h.number) (λ r. refl) (db.trees hold_tree) (of_holds office.whole.shaped);
  rules = rises rule_in (λ r. r.place) (λ r. refl) (db.trees rule_tree) (of_rules office.whole.shaped);
}

ascending_numbers : (ns : List ℤ) → IsAscending (λ a b. int_cmp a b ≡ Less) ns → NumbersRise (λ n. n) ns
ascending_numbers [] up = tt
ascending_numbers (n ∷ ns) up = (up.0, ascending_numbers ns up.1)

pub live_holds_rise : (db : Database) → IsOffice db → (n : ℤ) (collection class : List ℕ) → NumbersRise (λ k. k) (live_holds n collection class (tables_of db))
live_holds_rise db office n collection class = ascending_numbers _ (live_rise db office n collection class)

-- ---- the first that passes

pub first_passes : {X : Type 0} (p : X → Bool) (xs : List X) (x : X) → find p xs ≡ Some x → p x ≡ true
first_passes p [] x is = absurd cc
first_passes p (y ∷ ys) x is = elim (cases_Bool (p y)) [
  | inl fits ↦ subst (λ z. p z ≡ true) (same_Some y x (rw fits at is)) fits
  | inr isnt ↦ first_passes p ys x (rw isnt at is)
]

pub first_there : {X : Type 0} (p : X → Bool) (xs : List X) (x : X) → find p xs ≡ Some x → Has xs x
first_there p [] x is = absurd cc
first_there p (y ∷ ys) x is = elim (cases_Bool (p y)) [
  | inl fits ↦ inl (sym (same_Some y x (rw fits at is)))
  | inr isnt ↦ inr (first_there p ys x (rw isnt at is))
]

pub none_passes : {X : Type 0} (p : X → Bool) (xs : List X) → find p xs ≡ None → (x : X) → Has xs x → p x ≡ false
none_passes p [] is x there = absurd there
none_passes p (y ∷ ys) is x there = elim (cases_Bool (p y)) [
  | inl fits ↦ absurd (let some : Some y ≡ None = rw fits at is in cc)
  | inr isnt ↦ elim there [ inl same ↦ subst (λ z. p z ≡ false) (sym same) isnt | inr more ↦ none_passes p ys (rw isnt at is) x more ]
]

not_above : (a b : ℤ) → int_cmp a b ≡ Less → a ≤ℤ b
not_above a b e = grind (arith, ints, e)

itself : (a : ℤ) → a ≤ℤ a
itself a = omega (arith, ints)

pub first_is_least : {X : Type 0} (number : X → ℤ) (p : X → Bool) (xs : List X) → NumbersRise number xs → (x : X) → find p xs ≡ Some x → (y : X) → Has xs y → p y ≡ true → number x ≤ℤ number y
first_is_least number p [] up x is y there passes = absurd there
first_is_least number p (z ∷ zs) up x is y there passes = elim (cases_Bool (p z)) [
  | inl fits ↦
      let same : z ≡ x = same_Some z x (rw fits at is) in
      subst (λ w. number w ≤ℤ number y) same (elim there [
        | inl first ↦ subst (λ w. number z ≤ℤ number w) (sym first) (itself (number z))
        | inr more ↦ not_above (number z) (number y) (all_has _ zs y up.0 more)
      ])
  | inr isnt ↦ elim there [
    | inl first ↦ absurd (let no : p y ≡ false = subst (λ w. p w ≡ false) (sym first) isnt in cc)
    | inr more ↦ first_is_least number p zs up.1 x (rw isnt at is) y more passes
  ]
]
