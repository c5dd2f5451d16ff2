-- The entries that are listed, folder by folder.
use Rattle.bag_folders.proofs.Common.{◌≡◌, ◌∙◌, ◌+◌, ◌<◌, ℕ, List, true, false, Result, Ok, Err, IfErr, IfOk, IsErr, [], ◌∷◌, ◌++◌, get_or, length, sym, ap, subst, take, append-nil, append_assoc, arith, flat_map, string_bytes, AllZip, take_more, take-append-le, flat_map-append, Entry, AreListedAt}
use Rattle.bag_folders.proofs.GrowingLemmas.{zip_next}

abbrev pub joined : List (List Entry) → List Entry
joined below = flat_map (λ listed. listed) below

joined_next : (below : List (List Entry)) (more : List Entry) → joined (below ++ more ∷ []) ≡ joined below ++ more
joined_next below more = flat_map-append (λ (listed : List Entry). listed) below (more ∷ []) ∙ ap (λ (es : List Entry). joined below ++ es) (append-nil more)

abbrev pub At : (List ℕ → List Entry → Type 0) → Entry → List Entry → Type 0
At lists entry listed = AreListedAt lists (string_bytes entry.path) entry.kind listed

-- the entries of the first folder, and those of each folder among the first so many
pub record AreListedSoFar (lists : List ℕ → List Entry → Type 0) (entries : List Entry) (next : ℕ) : Type 0 where
  pub first : List Entry
  pub below : List (List Entry)
  pub whole : entries ≡ first ++ joined below
  pub are_first : lists [] first
  pub are_below : AllZip (At lists) (take next entries) below

pub listed_first : (lists : List ℕ → List Entry → Type 0) (entries : List Entry) → lists [] entries → AreListedSoFar lists entries 0
listed_first lists entries are = record { first = entries; below = []; whole = sym (append-nil entries); are_first = are; are_below = tt }

pub listed_next : (lists : List ℕ → List Entry → Type 0) (entries more new : List Entry) (next : ℕ) (entry : Entry) → next < length entries
    → entry ≡ get_or entries next entry → AreListedSoFar lists entries next → At lists entry more → new ≡ entries ++ more → AreListedSoFar lists new (next + 1)
listed_next lists entries more new next entry lt at so_far here is =
    let grown : joined (so_far.below ++ more ∷ []) ≡ joined so_far.below ++ more = joined_next so_far.below more in
    let front : take (next + 1) new ≡ take next entries ++ entry ∷ [] =
    ap (take (next + 1)) is ∙ take-append-le (next + 1) entries more (omega arith) ∙ take_more entries next entry lt
    ∙ ap (λ (e : Entry). take next entries ++ e ∷ []) (sym at) in
    record {
      first = so_far.first;
      below = so_far.below ++ more ∷ [];
      whole = is ∙ ap (λ (es : List Entry). es ++ more) so_far.whole ∙ append_assoc so_far.first (joined so_far.below) more ∙ ap (λ (es : List Entry). so_far.first ++ es) (sym grown);
      are_first = so_far.are_first;
      are_below = subst (λ (es : List Entry). AllZip (At lists) es (so_far.below ++ more ∷ [])) (sym front)
          (zip_next (At lists) (take next entries) so_far.below entry more so_far.are_below here);
    }

-- what is told of names is told of some
pub told_of_some : {S E V X : Type 0} (P : S → V → Type 0) (names : Result S E) (r : Result V X) → IfErr names (λ _. IsErr r) → IfOk names (λ n. IfOk r (λ v. P n v)) → IfOk r (λ v. (n : S) × P n v)
told_of_some P (Ok n) (Ok v) fails told = (n, told)
told_of_some P (Ok n) (Err x) fails told = tt
told_of_some P (Err e) (Ok v) fails told = let never : false ≡ true = fails in absurd (cc)
told_of_some P (Err e) (Err x) fails told = tt
