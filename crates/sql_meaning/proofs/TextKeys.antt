-- A text column that is a key: the test by it, and that it names at most one row.
use Rattle.sql_meaning.proofs.FirstLemmas.{◌≡◌, ◌&&◌, ◌||◌, ap₂, ◌⊎◌, not, ℕ, List, [], ◌∷◌, filter, bytes_eq, Bool, true, refl, ap, ◌∙◌, AllByRecursion, list_any, and-true, Text, Row, column, Term, col, op2, binary, is_true, Binary, Compare, Eq, clashes, agree, Has, all_has, all_from, IsShaped, bytes_at, unclashed, same_text, same_key, lone}
use Rattle.sqlite_value.specs.Keys.{first_key, plain}
use Rattle.sqlite_rules.proofs.KeyLemmas.{agree_back, agree_chain}
use Rattle.sqlite_trees.specs.declared.store.Shape.TheVariants as shape
use Rattle.sql_meaning.proofs.Scanning.{passes}

abbrev pub has_text : ℕ → List ℕ → Row → Bool
has_text place name r = bytes_eq (bytes_at r place) name

abbrev pub IsText : ℕ → Row → Type 0
IsText place r = column r place ≡ Text (bytes_at r place)

-- WHERE column = ?1
abbrev pub by_text : ℕ → List Term
by_text place = op2 (Compare Eq Binary) (col 1 place) (col 0 0) ∷ []

passes_text : (place : ℕ) (name : List ℕ) (more r : Row) → IsText place r → passes (Text name ∷ more) (by_text place) r ≡ has_text place name r
passes_text place name more r is = and-true _ ∙ ap (λ v. is_true (binary (Compare Eq Binary) v (Text name))) is ∙ same_text (bytes_at r place) name

pub each_passes : (place : ℕ) (name : List ℕ) (more : Row) (rows : List Row) → AllByRecursion (IsText place) rows → AllByRecursion (λ r. passes (Text name ∷ more) (by_text place) r ≡ has_text place name r) rows
each_passes place name more rows typed = all_from _ rows (λ r there. passes_text place name more r (all_has (IsText place) rows r typed there))

key_is : (place : ℕ) (name : List ℕ) (r : Row) → IsText place r → has_text place name r ≡ true → agree plain (place ∷ []) r (0 ∷ []) (Text name ∷ []) ≡ true
unfolding first_key
key_is place name r is named = passes_text place name [] r is ∙ named

-- two rows with one text are one
pub one_named : (place : ℕ) (rows : List Row) → IsShaped shape.Table rows → AllByRecursion (IsText place) rows → AllByRecursion (λ r. (not (clashes plain (place ∷ []) rows r) && true) ≡ true) rows
    → (name : List ℕ) (x y : Row) → Has rows x → Has rows y → has_text place name x ≡ true → has_text place name y ≡ true → x ≡ y
one_named place rows shaped typed unique name x y hx hy px py =
    let key : Row = Text name ∷ [] in
    let kx = key_is place name x (all_has (IsText place) rows x typed hx) px in
    let ky = key_is place name y (all_has (IsText place) rows y typed hy) py in
    let agrees = agree_chain plain (place ∷ []) (0 ∷ []) (place ∷ []) x key y kx (agree_back plain (place ∷ []) (0 ∷ []) y key ky) in
    same_key plain (place ∷ []) rows shaped x y hx hy (unclashed _ (all_has _ rows y unique hy)) agrees

-- at most one row has the text
pub few_named : (place : ℕ) (rows : List Row) → IsShaped shape.Table rows → AllByRecursion (IsText place) rows → AllByRecursion (λ r. (not (clashes plain (place ∷ []) rows r) && true) ≡ true) rows → (name : List ℕ)
    → (filter (has_text place name) rows ≡ []) ⊎ ((r : Row) × Has rows r × (has_text place name r ≡ true) × (filter (has_text place name) rows ≡ r ∷ []))
few_named place rows shaped typed unique name = lone (has_text place name) rows rows shaped.0 (λ r there. there) (one_named place rows shaped typed unique name)

-- ---- a reference to the text column of another table

-- a row is the parent of one that names it
parent_is : (place at : ℕ) (name : List ℕ) (row parent : Row) → IsText place parent → column row at ≡ Text name → agree plain (place ∷ []) parent (at ∷ []) row ≡ has_text place name parent
unfolding first_key
parent_is place at name row parent is names = and-true _ ∙ ap₂ (λ a b. is_true (binary (Compare Eq Binary) a b)) is names ∙ same_text (bytes_at parent place) name

pub any_parent : (place at : ℕ) (name : List ℕ) (row : Row) (parents : List Row) → AllByRecursion (IsText place) parents → column row at ≡ Text name
    → list_any (λ parent. agree plain (place ∷ []) parent (at ∷ []) row) parents ≡ list_any (has_text place name) parents
any_parent place at name row [] typed names = refl
any_parent place at name row (p ∷ parents) typed names = ap₂ ◌||◌ (parent_is place at name row p typed.0 names) (any_parent place at name row parents typed.1 names)
