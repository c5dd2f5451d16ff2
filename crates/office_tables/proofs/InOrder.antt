-- A row of a numbered table comes at its place by number, as it is stored and as it is told.
use Rattle.office_tables.proofs.Common.{◌≡◌, ℕ, ℤ, List, [], ◌∷◌, map, false, IsTrue, Ordering, Less, Equal, Greater, refl, sym, ap, ap₂, subst, ◌∙◌, AllByRecursion, int_cmp, is_eq, Int, Row, value_cmp, Table, rowid, put_row, cast_row, edit_of, edited, with_rowid, Chosen, State, Enforced, is_int, IsShaped, value_cmp-Int, int_is, int_at, Changes, IsApart, apart, inserted, office_schema, put_by}
use Rattle.sqlite_trees.specs.declared.store.Shape.TheVariants as shape

abbrev pub IsNumbered : Row → Type 0
IsNumbered r = IsTrue (is_int (rowid r))

module _ {Y : Type 0} (decode : Row → Y) (number : Y → ℤ) (numbers : (r : Row) → number (decode r) ≡ int_at r 0) where
  pub same_order : (a b : Row) → IsNumbered a → IsNumbered b → int_cmp (number (decode a)) (number (decode b)) ≡ value_cmp (rowid a) (rowid b)
  same_order a b whole other =
      ap₂ int_cmp (numbers a) (numbers b) ∙ sym (ap₂ value_cmp (int_is (rowid a) whole) (int_is (rowid b) other) ∙ value_cmp-Int (int_at a 0) (int_at b 0))

  put_before : (new r : Row) (rows : List Row) (o : Ordering) → value_cmp (rowid r) (rowid new) ≡ o → is_eq (value_cmp (rowid r) (rowid new)) ≡ false
      → int_cmp (number (decode r)) (number (decode new)) ≡ value_cmp (rowid r) (rowid new) → map decode (put_row new rows) ≡ put_by number (decode new) (map decode rows)
      → map decode (put_row new (r ∷ rows)) ≡ put_by number (decode new) (map decode (r ∷ rows))
  put_before new r rows Less is other same more = let less : int_cmp (number (decode r)) (number (decode new)) ≡ Less = same ∙ is in rw (is, less) (ap (λ ys. decode r ∷ ys) more)
  put_before new r rows Equal is other same more = absurd (let no : is_eq Equal ≡ false = rw is at other in cc)
  put_before new r rows Greater is other same more = let higher : int_cmp (number (decode r)) (number (decode new)) ≡ Greater = same ∙ is in rw (is, higher) refl

  put_decoded : (new : Row) (rows : List Row) → IsNumbered new → AllByRecursion IsNumbered rows → IsApart new rows → map decode (put_row new rows) ≡ put_by number (decode new) (map decode rows)
  put_decoded new [] whole all other = refl
  put_decoded new (r ∷ rows) whole all other =
      put_before new r rows (value_cmp (rowid r) (rowid new)) refl other.0 (same_order r new all.0 whole) (put_decoded new rows whole all.1 other.1)

  -- INSERT of one row with its number
  pub placed : (old new : State) (table : Table) (source columns : Row) (n : ℤ) (count : ℕ) (written : List Row) → IsShaped shape.Table (old.now.trees table.tree) → cast_row table source ≡ Int n ∷ columns
      → Changes office_schema old new (edit_of old.now.trees table [] Chosen 0 (source ∷ [])) count written
      → map decode (edited old.now.trees (edit_of old.now.trees table [] Chosen 0 (source ∷ []))) ≡ put_by number (decode (Int n ∷ columns)) (map decode (old.now.trees table.tree))
  placed old new table source columns n count written shaped is change =
      let db = old.now.trees in
      let other : IsApart (Int n ∷ columns) (db table.tree) = subst (λ r. IsApart (with_rowid Chosen (db table.tree) r) (db table.tree)) is (apart office_schema Enforced db new.now.trees table source change.applies) in
      ap (map decode) (inserted db table source columns n is) ∙ put_decoded (Int n ∷ columns) (db table.tree) refl shaped.1 other
