-- What a STRICT table's rules say of the columns of its rows.
use Rattle.sql_meaning.proofs.Common.{◌≡◌, ◌&&◌, ◌||◌, ◌⊎◌, Bool, not, ℕ, zero, suc, ◌+◌, List, [], ◌∷◌, drop, slice_get, slice_index_or, true, false, None, Some, Option, refl, sym, ap, subst, ◌∙◌, inl, inr, if◌then◌else◌, arith, AllByRecursion, not-true, and_parts, Value, Null, Int, Text, Blob, Row, column, bytes, is_null, id_in, Table, Schema, Trees, are_typed, are_present, suits, is_of, passes}
use Rattle.std.specs.Prelude.{⊤}
use Rattle.sqlite.specs.Kind.{Kind}
use Rattle.sqlite.specs.Kind.TheVariants as kind
use Rattle.sqlite_schema.specs.declared.schema.Column.{Column}
use Rattle.sqlite_schema.specs.declared.schema.Constraint.TheVariants.{Datatype, NotNull}
use Rattle.sqlite_schema.specs.Names.{is_key}

pub all_both : {X : Type 0} {P Q R : X → Type 0} → ((x : X) → P x → Q x → R x) → (xs : List X) → AllByRecursion P xs → AllByRecursion Q xs → AllByRecursion R xs
all_both f [] p q = tt
all_both f (x ∷ xs) p q = (f x p.0 q.0, all_both f xs p.1 q.1)

past_end : (i : ℕ) → slice_index_or [] i Null ≡ Null
past_end zero = refl
past_end (suc i) = refl

nothing_suits : (c : Column) → c.is_strict ≡ true → suits c Null ≡ true
nothing_suits c strict = rw strict refl

suits_at : (key : Option ℕ) (at : ℕ) (cs : List Column) (vs : Row) → are_typed key at cs vs ≡ true
    → (i : ℕ) (c : Column) → slice_get cs i ≡ Some c → c.is_strict ≡ true → is_key key (at + i) ≡ false → suits c (slice_index_or vs i Null) ≡ true
suits_at key at [] vs h i c found strict free = absurd cc
suits_at key at (d ∷ cs) [] h zero c found strict free = nothing_suits c strict
suits_at key at (d ∷ cs) [] h (suc i) c found strict free = nothing_suits c strict
suits_at key at (d ∷ cs) (v ∷ vs) h zero c found strict free =
    let same : d ≡ c = cc in
    let here : is_key key at ≡ false = subst (λ n. is_key key n ≡ false) (omega arith) free in
    let first : (if is_key key at then is_null v else suits d v) ≡ true = (and_parts _ _ h).0 in
    let it : suits d v ≡ true = rw here at first in
    subst (λ col. suits col v ≡ true) same it
suits_at key at (d ∷ cs) (v ∷ vs) h (suc i) c found strict free =
    suits_at key (at + 1) cs vs (and_parts _ _ h).1 i c found strict (subst (λ n. is_key key n ≡ false) (omega arith) free)

present_at : (key : Option ℕ) (at : ℕ) (cs : List Column) (row : Row) → are_present key at cs row ≡ true
    → (i : ℕ) (c : Column) → slice_get cs i ≡ Some c → c.not_null ≡ true → is_key key (at + i) ≡ false → is_null (column row (at + i + 1)) ≡ false
present_at key at [] row h i c found needed free = absurd cc
present_at key at (d ∷ cs) row h zero c found needed free =
    let same : d ≡ c = cc in
    let here : is_key key at ≡ false = subst (λ n. is_key key n ≡ false) (omega arith) free in
    let there : (at + 0 + 1) ≡ at + 1 = omega arith in
    let must : d.not_null ≡ true = ap (λ (k : Column). k.not_null) same ∙ needed in
    let it : is_key key at || not d.not_null || not (is_null (column row (at + 1))) ≡ true = (and_parts _ _ h).0 in
    let bare : not (is_null (column row (at + 1))) ≡ true = rw (here, must) at it in
    subst (λ n. is_null (column row n) ≡ false) (sym there) (not-true (is_null (column row (at + 1))) bare)
present_at key at (d ∷ cs) row h (suc i) c found needed free =
    let there : (at + suc i + 1) ≡ at + 1 + i + 1 = omega arith in
    let more = present_at key (at + 1) cs row (and_parts _ _ h).1 i c found needed (subst (λ n. is_key key n ≡ false) (omega arith) free) in
    subst (λ n. is_null (column row n) ≡ false) (sym there) more

after_id : (row : Row) (i : ℕ) → slice_index_or (drop 1 row) i Null ≡ column row (i + 1)
after_id [] i = past_end i ∙ sym (past_end (i + 1))
after_id (v ∷ vs) i = let next : i + 1 ≡ suc i = omega arith in rw next refl

is_text : (v : Value) → is_of kind.Text v ≡ true → is_null v ≡ false → v ≡ Text (bytes v)
is_text (Text t) h k = refl
is_text _ h k = absurd cc

is_int : (v : Value) → is_of kind.Integer v ≡ true → is_null v ≡ false → v ≡ Int (id_in v)
is_int (Int n) h k = refl
is_int _ h k = absurd cc

is_blob : (v : Value) → is_of kind.Blob v ≡ true → is_null v ≡ false → v ≡ Blob (bytes v)
is_blob (Blob b) h k = refl
is_blob _ h k = absurd cc

null_or : (v : Value) → (v ≡ Null) ⊎ (is_null v ≡ false)
null_or Null = inl refl
null_or _ = inr refl

-- a value of this kind; of a kind that no column here has, nothing is said
abbrev pub IsGiven : Kind → Value → Type 0
IsGiven kind.Integer v = v ≡ Int (id_in v)
IsGiven kind.Real v = ⊤
IsGiven kind.Text v = v ≡ Text (bytes v)
IsGiven kind.Blob v = v ≡ Blob (bytes v)
IsGiven kind.Any v = ⊤

given : (k : Kind) (v : Value) → is_of k v ≡ true → is_null v ≡ false → IsGiven k v
given kind.Integer v h some = is_int v h some
given kind.Real v h some = tt
given kind.Text v h some = is_text v h some
given kind.Blob v h some = is_blob v h some
given kind.Any v h some = tt

-- what is said of the value of a column: where it is not NOT NULL, it may be NULL
abbrev pub IsAllowed : Bool → Kind → Value → Type 0
IsAllowed true k v = IsGiven k v
IsAllowed false k v = (v ≡ Null) ⊎ IsGiven k v

abbrev pub IsTyped : Option Column → Value → Type 0
IsTyped None v = ⊤
IsTyped (Some c) v = IsAllowed c.not_null c.kind v

-- a column of a STRICT table that is not the key
abbrev pub is_plain : Option ℕ → ℕ → Option Column → Bool
is_plain key i None = false
is_plain key i (Some c) = c.is_strict && not (is_key key (0 + i))

module _ (schema : Schema) (db : Trees) (table : Table) (row : Row) (typed : passes Datatype schema db table row ≡ true) (present : passes NotNull schema db table row ≡ true) where
  suited : (i : ℕ) (c : Column) → slice_get table.columns i ≡ Some c → c.is_strict ≡ true → is_key table.key (0 + i) ≡ false → suits c (column row (i + 1)) ≡ true
  suited i c found strict free = subst (λ v. suits c v ≡ true) (after_id row i) (suits_at table.key 0 table.columns (drop 1 row) (and_parts _ _ typed).0 i c found strict free)

  of_kind : (i : ℕ) (c : Column) → slice_get table.columns i ≡ Some c → c.is_strict ≡ true → is_key table.key (0 + i) ≡ false → is_of c.kind (column row (i + 1)) ≡ true
  of_kind i c found strict free = rw strict at (suited i c found strict free)

  filled : (i : ℕ) (c : Column) → slice_get table.columns i ≡ Some c → c.not_null ≡ true → is_key table.key (0 + i) ≡ false → is_null (column row (i + 1)) ≡ false
  filled i c found needed free =
      let same : 0 + i + 1 ≡ i + 1 = omega arith in
      subst (λ n. is_null (column row n) ≡ false) same (present_at table.key 0 table.columns row present i c found needed free)

  allowed : (i : ℕ) (c : Column) → slice_get table.columns i ≡ Some c → c.is_strict ≡ true → is_key table.key (0 + i) ≡ false → IsAllowed c.not_null c.kind (column row (i + 1))
  allowed i c found strict free = by c.not_null refl
    where
      by : (needed : Bool) → c.not_null ≡ needed → IsAllowed needed c.kind (column row (i + 1))
      by true is = given c.kind (column row (i + 1)) (of_kind i c found strict free) (filled i c found is free)
      by false is = elim (null_or (column row (i + 1))) [ inl none ↦ inl none | inr some ↦ inr (given c.kind (column row (i + 1)) (of_kind i c found strict free) some) ]

  -- what is known of the value in the column at that place
  pub typed_at : (i : ℕ) → is_plain table.key i (slice_get table.columns i) ≡ true → IsTyped (slice_get table.columns i) (column row (i + 1))
  typed_at i plain = by (slice_get table.columns i) refl plain
    where
      by : (o : Option Column) → slice_get table.columns i ≡ o → is_plain table.key i o ≡ true → IsTyped o (column row (i + 1))
      by None is plain = absurd cc
      by (Some c) is plain = let parts = and_parts _ _ plain in allowed i c is parts.0 (not-true (is_key table.key (0 + i)) parts.1)
