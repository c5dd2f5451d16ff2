-- A key that is the rowid: the test by it, and that it names at most one row.
use Rattle.sql_meaning.proofs.FirstLemmas.{◌≡◌, ◌⊎◌, ℤ, List, [], ◌∷◌, filter, Bool, true, false, Equal, IsTrue, sym, ap, subst₂, ◌∙◌, AllByRecursion, int_eq, int_cmp, ordering_reverse, and-true, int_cmp_total, Int, Row, value_cmp, Term, col, op2, binary, is_true, Binary, Compare, Eq, Key, value_cmp-Int, rowid, Has, tied_same, all_has, all_from, int_is, is_int, IsShaped, int_at, equal_is, same_int, lone}
use Rattle.sqlite_trees.specs.declared.store.Shape.TheVariants as shape
use Rattle.sql_meaning.proofs.Scanning.{passes}

abbrev pub has_number : ℤ → Row → Bool
has_number n r = int_eq (int_at r 0) n

-- WHERE number = ?1
abbrev pub by_number : List Term
by_number = op2 (Compare Eq Binary) (col 1 0) (col 0 0) ∷ []

-- ORDER BY the rowid
abbrev pub rising : List (Term × Key)
rising = (col 1 0, record { collation = Binary; descending = false }) ∷ []

passes_number : (n : ℤ) (more r : Row) → IsTrue (is_int (rowid r)) → passes (Int n ∷ more) by_number r ≡ has_number n r
passes_number n more r whole = and-true _ ∙ ap (λ v. is_true (binary (Compare Eq Binary) v (Int n))) (int_is (rowid r) whole) ∙ same_int (int_at r 0) n

pub each_numbered : (n : ℤ) (more : Row) (rows : List Row) → IsShaped shape.Table rows → AllByRecursion (λ r. passes (Int n ∷ more) by_number r ≡ has_number n r) rows
each_numbered n more rows shaped = all_from _ rows (λ r there. passes_number n more r (all_has _ rows r shaped.1 there))

-- two rows with one number are one
pub one_numbered : (rows : List Row) → IsShaped shape.Table rows → (n : ℤ) (x y : Row) → Has rows x → Has rows y → has_number n x ≡ true → has_number n y ≡ true → x ≡ y
one_numbered rows shaped n x y hx hy px py =
    let wx = int_is (rowid x) (all_has _ rows x shaped.1 hx) in
    let wy = int_is (rowid y) (all_has _ rows y shaped.1 hy) in
    let ex : int_cmp (int_at x 0) n ≡ Equal = equal_is _ px in
    let ey : int_cmp (int_at y 0) n ≡ Equal = equal_is _ py in
    tied_same rows x y shaped.0 hx hy (subst₂ (λ a b. value_cmp a b ≡ Equal) (sym wx) (sym wy) (value_cmp-Int (int_at x 0) (int_at y 0) ∙ int_cmp_total.congr (int_at x 0) n (int_at y 0) ex ∙ int_cmp_total.antisymm n (int_at y 0) ∙ ap ordering_reverse ey))

-- at most one row has the number
pub few_numbered : (n : ℤ) (rows : List Row) → IsShaped shape.Table rows → (filter (has_number n) rows ≡ []) ⊎ ((r : Row) × Has rows r × (has_number n r ≡ true) × (filter (has_number n) rows ≡ r ∷ []))
few_numbered n rows shaped = lone (has_number n) rows rows shaped.0 (λ r there. there) (one_numbered rows shaped n)
