-- The entries of a manifest, line after line.
use Rattle.bag_text.proofs.FirstLemmas.{cases_Bool, ◌≡◌, ℕ, zero, suc, ◌+◌, ◌-◌, ◌<◌, ◌≤◌, true, false, List, [], ◌∷◌, ◌++◌, length, refl, sym, ap, subst, ◌∙◌, ◌⊎◌, inl, inr, arith, Some, slice_get, AllByRecursion, Ordering, nat_cmp, is_eq, is_lt, ordering_reverse, slice_cmp, insert_entry, cases_lt, bytes_eq-Decides, same_Some, slice_get_within, length_push, comes_before, AscendingPaths, Entries, is_path_listed, map, nat_list_cmp_total, is_eq-slice_cmp, Has, slice_get-append, slice_get_last}
use Rattle.bag_text.specs.ManifestReading.{Entry}
use Rattle.bag_text.proofs.OrderLemmas.{less}
use Rattle.bag_text.proofs.CaseLemmas.{by_Bool, by_Ordering}

-- ---- places in a list of lines

-- the line of this number, from 1
abbrev pub At : List (List ℕ) → ℕ → List ℕ → Type 0
At ls n line = (1 ≤ n) × (slice_get ls (n - 1) ≡ Some line)

-- an element within the front is one of it
get_back : (xs ys : List (List ℕ)) (k : ℕ) (x : List ℕ) → k < length xs → slice_get (xs ++ ys) k ≡ Some x → slice_get xs k ≡ Some x
get_back [] ys k x lt e = absurd (omega arith)
get_back (y ∷ xs) ys zero x lt e = e
get_back (y ∷ xs) ys (suc k) x lt e = get_back xs ys k x (omega arith) e

-- a line of the front is one of the whole
pub at_front : (xs ys : List (List ℕ)) (n : ℕ) (line : List ℕ) → At xs n line → At (xs ++ ys) n line
at_front xs ys n line at = (at.0, slice_get-append xs ys (n - 1) line at.1)

-- a line's number is within the list
pub at_within : (xs : List (List ℕ)) (n : ℕ) (line : List ℕ) → At xs n line → n < length xs + 1
at_within xs n line at = let k = slice_get_within xs (n - 1) line at.1 in omega (arith, at.0)

-- a line within the front is one of it
pub at_back : (xs ys : List (List ℕ)) (n : ℕ) (line : List ℕ) → n < length xs + 1 → At (xs ++ ys) n line → At xs n line
at_back xs ys n line lt at = (at.0, get_back xs ys (n - 1) line (omega (arith, at.0)) at.1)

-- each number has one line
pub at_same : (xs : List (List ℕ)) (n : ℕ) (one two : List ℕ) → At xs n one → At xs n two → one ≡ two
at_same xs n one two a b = same_Some one two (sym a.1 ∙ b.1)

-- the line after the front
pub at_last : (xs : List (List ℕ)) (line : List ℕ) (ys : List (List ℕ)) → At (xs ++ line ∷ ys) (length xs + 1) line
at_last xs line ys = let n : length xs + 1 - 1 ≡ length xs = omega arith in (omega arith, rw n (slice_get_last xs line ys))

-- a line of a list with one more is of the list, or that one
pub at_push : (xs : List (List ℕ)) (last : List ℕ) (n : ℕ) (line : List ℕ) → At (xs ++ last ∷ []) n line → At xs n line ⊎ ((n ≡ length xs + 1) × (last ≡ line))
at_push xs last n line at = elim (cases_lt n (length xs + 1)) [
  | inl lt ↦ inl (at_back xs (last ∷ []) n line lt at)
  | inr le ↦
      let within = at_within (xs ++ last ∷ []) n line at in
      let is : n ≡ length xs + 1 = omega (arith, length_push xs last) in
      inr (is, at_same (xs ++ last ∷ []) n last line (subst (λ (m : ℕ). At (xs ++ last ∷ []) m last) (sym is) (at_last xs last [])) at)
]

-- ---- looking a path up

-- the order of paths
abbrev pub order : List ℕ → List ℕ → Ordering
order = slice_cmp nat_cmp

-- paths that compare equal are equal
pub same_path : (p q : List ℕ) → is_eq (order p q) ≡ true → p ≡ q
same_path p q e = (bytes_eq-Decides p q).0 (sym (is_eq-slice_cmp p q) ∙ e)

-- a path compares equal to itself
pub itself : (p : List ℕ) → is_eq (order p p) ≡ true
itself p = is_eq-slice_cmp p p ∙ (bytes_eq-Decides p p).1 refl

-- a listed path has an entry
pub listed_has : (path : List ℕ) (es : Entries) → is_path_listed path es ≡ true → (entry : Entry) × Has es (path, entry)
listed_has path [] e = absurd cc
listed_has path (f ∷ es) e = by_Bool (is_eq (order path f.0))
    (λ is. (f.1, inl (ap (λ (p : List ℕ). (p, f.1)) (sym (same_path path f.0 is)))))
    (λ is. let found = listed_has path es (rw is at e) in (found.0, inr found.1))

-- an entry's path is listed
pub has_listed : (path : List ℕ) (entry : Entry) (es : Entries) → Has es (path, entry) → is_path_listed path es ≡ true
has_listed path entry [] h = absurd h
has_listed path entry (f ∷ es) (inl e) =
    let is : is_eq (order path f.0) ≡ true = subst (λ (p : List ℕ). is_eq (order path p) ≡ true) (sym (ap (λ (x : List ℕ × Entry). x.0) e)) (itself path) in
    rw is refl
has_listed path entry (f ∷ es) (inr h) =
    elim (cases_Bool (is_eq (order path f.0))) [ inl e ↦ rw e refl | inr e ↦ rw e (has_listed path entry es h) ]

-- ---- putting an entry in its place

-- an entry in its place
abbrev pub put : Entries → List ℕ → Entry → Entries
put es path entry = insert_entry order es path entry

-- the new entry is there
pub put_new : (es : Entries) (path : List ℕ) (entry : Entry) → is_path_listed path es ≡ false → Has (put es path entry) (path, entry)
put_new [] path entry new = inl refl
put_new (f ∷ es) path entry new = by_Ordering (order path f.0)
    (λ is. rw is (inl refl))
    (λ is. let wrong = rw is at new in absurd cc)
    (λ is. rw is (inr (put_new es path entry (rw is at new))))

-- the other entries stay
pub put_old : (es : Entries) (path : List ℕ) (entry : Entry) (x : List ℕ × Entry) → is_path_listed path es ≡ false → Has es x → Has (put es path entry) x
put_old [] path entry x new h = absurd h
put_old (f ∷ es) path entry x new h = by_Ordering (order path f.0)
    (λ is. rw is (inr h))
    (λ is. let wrong = rw is at new in absurd cc)
    (λ is. rw is (elim h [ inl e ↦ inl e | inr h ↦ inr (put_old es path entry x (rw is at new) h) ]))

-- each entry is the new one or was there
pub put_cases : (es : Entries) (path : List ℕ) (entry : Entry) (x : List ℕ × Entry) → is_path_listed path es ≡ false → Has (put es path entry) x → ((path, entry) ≡ x) ⊎ Has es x
put_cases [] path entry x new h = h
put_cases (f ∷ es) path entry x new h = by_Ordering (order path f.0)
    (λ is. rw is at h)
    (λ is. let wrong = rw is at new in absurd cc)
    (λ is. elim (rw is at h) [
      | inl e ↦ inr (inl e)
      | inr h ↦ elim (put_cases es path entry x (rw is at new) h) [ inl e ↦ inl e | inr h ↦ inr (inr h) ]
    ])

-- ---- the paths ascend

-- the paths of the entries
abbrev pub paths_in : Entries → List (List ℕ)
paths_in es = map (λ e. e.0) es

-- a path comes before another
abbrev IsLater : List ℕ → List ℕ → Type 0
IsLater path later = comes_before path later ≡ true

-- what comes before a path comes before those after it
later_still : (p q : List ℕ) (rs : List (List ℕ)) → IsLater p q → AllByRecursion (IsLater q) rs → AllByRecursion (IsLater p) rs
later_still p q [] e all = tt
later_still p q (r ∷ rs) e all = (ap is_lt (nat_list_cmp_total.trans p q r (less (order p q) e) (less (order q r) all.0)), later_still p q rs e all.1)

-- what holds of a new path and of all others
all_put : (P : List ℕ → Type 0) (es : Entries) (path : List ℕ) (entry : Entry) → P path → AllByRecursion P (paths_in es) → AllByRecursion P (paths_in (put es path entry))
all_put P [] path entry one all = (one, tt)
all_put P (f ∷ es) path entry one all =
    by_Ordering (order path f.0) (λ is. rw is (one, all)) (λ is. rw is all) (λ is. rw is (all.0, all_put P es path entry one all.1))

-- the paths still ascend
pub put_ascends : (es : Entries) (path : List ℕ) (entry : Entry) → is_path_listed path es ≡ false → AscendingPaths (paths_in es) → AscendingPaths (paths_in (put es path entry))
put_ascends [] path entry new up = (tt, tt)
put_ascends (f ∷ es) path entry new up = by_Ordering (order path f.0)
    (λ is. let first : IsLater path f.0 = ap is_lt is in rw is ((first, later_still path f.0 (paths_in es) first up.0), up))
    (λ is. let wrong = rw is at new in absurd cc)
    (λ is.
    let first : IsLater f.0 path = ap is_lt (nat_list_cmp_total.antisymm f.0 path ∙ ap ordering_reverse is) in
    rw is (all_put (IsLater f.0) es path entry first up.0, put_ascends es path entry (rw is at new) up.1))
