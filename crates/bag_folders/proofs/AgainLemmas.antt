-- Files that are found again in another order come back in the one that they had.
use Rattle.bag_folders.proofs.Common.{◌≡◌, ◌∙◌, ℕ, suc, ◌+◌, ◌<◌, ◌≤◌, Bool, true, false, cond, List, [], ◌∷◌, get_or, length, map, refl, sym, ap, ap₂, subst, drop, arith, string_bytes, AllByRecursion, sum_by, nat_list_cmp_total, sum_by-cons, IsPermutation-map, IsPermutation-trans, sum_by-IsPermutation, sorted_far, bytes_eq, comes_before, Ascends, File, IsBag, Listed, AreFilesOf, AreInPathOrder, AreFoundAgain, file_outline, listed_outline}
use Rattle.std.proofs.lemmas.Bool.{false_from_ne_true, true_from_ne_false, false≢true}
use Rattle.std.specs.Ordering.{is_lt, ordering_reverse}
use Rattle.std.proofs.lemmas.Slice.Eq.{bytes_eq-Decides}
use Rattle.bag_text.proofs.OrderLemmas.{after, before_chain, less, path_cmp}
use Rattle.bag_folders.proofs.OrderLemmas.{by_path}

abbrev Outline : Type 0
Outline = List ℕ × ℕ

-- ---- the order of paths

one_way : (a b : List ℕ) → comes_before a b ≡ true → comes_before b a ≡ false
one_way a b e = ap is_lt (nat_list_cmp_total.antisymm b a ∙ ap ordering_reverse (less (path_cmp a b) e))

not_itself : (a : List ℕ) → comes_before a a ≡ false
not_itself a = false_from_ne_true (comes_before a a) (λ e. false≢true (sym (one_way a a e) ∙ e))

neither : (a b : List ℕ) → comes_before a b ≡ false → comes_before b a ≡ false → a ≡ b
neither a b e g = (bytes_eq-Decides a b).0 (true_from_ne_false (bytes_eq a b) (λ is. false≢true (sym g ∙ after a b e is)))

-- ---- lists of paths and sizes

abbrev before : Outline → Outline → Bool
before a b = comes_before a.0 b.0

-- each comes before all that follow
abbrev Strict : List Outline → Type 0
Strict [] = Unit {0}
Strict (x ∷ xs) = AllByRecursion (λ z. before x z ≡ true) xs × Strict xs

-- none comes before one in front of it
abbrev Sorted : List Outline → Type 0
Sorted [] = Unit {0}
Sorted (y ∷ ys) = AllByRecursion (λ z. before z y ≡ false) ys × Sorted ys

-- whatever is counted of them, it is as much
abbrev Alike : List Outline → List Outline → Type 0
Alike xs ys = (f : Outline → ℕ) → sum_by f xs ≡ sum_by f ys

all_weaker : {X : Type 0} (P Q : X → Type 0) (xs : List X) → ((x : X) → P x → Q x) → AllByRecursion P xs → AllByRecursion Q xs
all_weaker P Q [] h all = tt
all_weaker P Q (x ∷ xs) h all = (h x all.0, all_weaker P Q xs h all.1)

no_sum : (f : Outline → ℕ) (xs : List Outline) → AllByRecursion (λ x. f x ≡ 0) xs → sum_by f xs ≡ 0
no_sum f [] h = refl
no_sum f (x ∷ xs) h =
    let here = h.0 in
    let later = no_sum f xs h.1 in
    let sum = sum_by-cons f x xs in
    omega arith

tails_alike : (x : Outline) (xs ys : List Outline) → Alike (x ∷ xs) (x ∷ ys) → Alike xs ys
tails_alike x xs ys same f =
    let whole = same f in
    let left = sum_by-cons f x xs in
    let right = sum_by-cons f x ys in
    omega arith

-- what counts the first of these, and none of those, tells them apart
one_alone : (f : Outline → ℕ) (x : Outline) (xs zs : List Outline) → f x ≡ 1 → sum_by f zs ≡ 0 → sum_by f (x ∷ xs) ≡ sum_by f zs → ⊥
one_alone f x xs zs one none same =
    let sum = sum_by-cons f x xs in
    omega arith

not_before : (x y : Outline) (xs ys : List Outline) → AllByRecursion (λ z. before z y ≡ false) ys → Alike (x ∷ xs) (y ∷ ys) → before x y ≡ true → ⊥
not_before x y xs ys least same e =
    let f : Outline → ℕ = λ z. cond (before z y) 1 0 in
    one_alone f x xs (y ∷ ys) (ap (λ (b : Bool). cond b 1 0) e)
    (no_sum f (y ∷ ys) (ap (λ (b : Bool). cond b 1 0) (not_itself y.0), all_weaker (λ z. before z y ≡ false) (λ z. f z ≡ 0) ys (λ z h. ap (λ (b : Bool). cond b 1 0) h) least))
    (same f)

not_after : (x y : Outline) (xs ys : List Outline) → AllByRecursion (λ z. before x z ≡ true) xs → Alike (x ∷ xs) (y ∷ ys) → before y x ≡ true → ⊥
not_after x y xs ys first same e =
    let f : Outline → ℕ = λ z. cond (before z x) 1 0 in
    one_alone f y ys (x ∷ xs) (ap (λ (b : Bool). cond b 1 0) e)
    (no_sum f (x ∷ xs) (ap (λ (b : Bool). cond b 1 0) (not_itself x.0), all_weaker (λ z. before x z ≡ true) (λ z. f z ≡ 0) xs (λ z h. ap (λ (b : Bool). cond b 1 0) (one_way x.0 z.0 h)) first))
    (sym (same f))

-- one that passes no test is counted
is_counted : (test : Outline → Bool) (z : Outline) (zs : List Outline) → test z ≡ false → sum_by (λ (w : Outline). cond (test w) 0 1) (z ∷ zs) ≡ 0 → ⊥
is_counted test z zs e none =
    let here : cond {A = ℕ} (test z) 0 1 ≡ 1 = ap (λ (b : Bool). cond {A = ℕ} b 0 1) e in
    let counted = sum_by-cons (λ (w : Outline). cond (test w) 0 1) z zs in
    let no : ⊥ = omega (arith, here, counted, none) in
    no

-- where none is counted, none counts by its size
no_sizes : (test : Outline → Bool) (ys : List Outline) → sum_by (λ z. cond (test z) 0 1) ys ≡ 0 → sum_by (λ z. cond (test z) 0 (z.1 + 1)) ys ≡ 0
no_sizes test [] none = refl
no_sizes test (z ∷ zs) none = by_test (test z) refl (λ e. no_sizes test zs e)
  where
    by_test : (b : Bool) → test z ≡ b → (sum_by (λ (w : Outline). cond (test w) 0 1) zs ≡ 0 → sum_by (λ (w : Outline). cond (test w) 0 (w.1 + 1)) zs ≡ 0)
        → sum_by (λ (w : Outline). cond (test w) 0 (w.1 + 1)) (z ∷ zs) ≡ 0
    by_test true e again =
        let counted = sum_by-cons (λ (w : Outline). cond (test w) 0 1) z zs in
        let here : cond {A = ℕ} (test z) 0 1 ≡ 0 = ap (λ (b : Bool). cond {A = ℕ} b 0 1) e in
        let later = again (omega arith) in
        let sized = sum_by-cons (λ (w : Outline). cond (test w) 0 (w.1 + 1)) z zs in
        let none_here : cond {A = ℕ} (test z) 0 (z.1 + 1) ≡ 0 = ap (λ (b : Bool). cond {A = ℕ} b 0 (z.1 + 1)) e in
        omega arith
    by_test false e again = absurd (is_counted test z zs e none)

same_sizes : (x y : Outline) (xs ys : List Outline) → AllByRecursion (λ z. before x z ≡ true) xs → Alike (x ∷ xs) (y ∷ ys) → x.0 ≡ y.0 → x.1 ≡ y.1
same_sizes x y xs ys first same e =
    let g : Outline → ℕ = λ z. cond (before x z) 0 1 in
    let f : Outline → ℕ = λ z. cond (before x z) 0 (z.1 + 1) in
    let here : before x x ≡ false = not_itself x.0 in
    let there : before x y ≡ false = subst (λ (p : List ℕ). comes_before x.0 p ≡ false) e here in
    let g_x : g x ≡ 1 = ap (λ (b : Bool). cond b 0 1) here in
    let g_y : g y ≡ 1 = ap (λ (b : Bool). cond b 0 1) there in
    let f_x : f x ≡ x.1 + 1 = ap (λ (b : Bool). cond b 0 (x.1 + 1)) here in
    let f_y : f y ≡ y.1 + 1 = ap (λ (b : Bool). cond b 0 (y.1 + 1)) there in
    let g_xs : sum_by g xs ≡ 0 = no_sum g xs (all_weaker (λ z. before x z ≡ true) (λ z. g z ≡ 0) xs (λ z h. ap (λ (b : Bool). cond b 0 1) h) first) in
    let f_xs : sum_by f xs ≡ 0 = no_sum f xs (all_weaker (λ z. before x z ≡ true) (λ z. f z ≡ 0) xs (λ z h. ap (λ (b : Bool). cond b 0 (z.1 + 1)) h) first) in
    let g_left = sum_by-cons g x xs in
    let g_right = sum_by-cons g y ys in
    let f_left = sum_by-cons f x xs in
    let f_right = sum_by-cons f y ys in
    let g_same = same g in
    let f_same = same f in
    let g_ys : sum_by g ys ≡ 0 = omega arith in
    let f_ys : sum_by f ys ≡ 0 = no_sizes (before x) ys g_ys in
    omega arith

same_head : (x y : Outline) (xs ys : List Outline) → Strict (x ∷ xs) → Sorted (y ∷ ys) → Alike (x ∷ xs) (y ∷ ys) → x ≡ y
same_head x y xs ys strict sorted same = by_tests (before x y) (before y x) refl refl
  where
    by_tests : (s t : Bool) → before x y ≡ s → before y x ≡ t → x ≡ y
    by_tests true t e g = absurd (not_before x y xs ys sorted.0 same e)
    by_tests false true e g = absurd (not_after x y xs ys strict.0 same g)
    by_tests false false e g =
        let path = neither x.0 y.0 e g in
        ap₂ (λ (p : List ℕ) (n : ℕ). (p, n)) path (same_sizes x y xs ys strict.0 same path)

one_order : (xs ys : List Outline) → Strict xs → Sorted ys → Alike xs ys → xs ≡ ys
one_order [] [] strict sorted same = refl
one_order [] (y ∷ ys) strict sorted same =
    let whole = same (λ z. 1) in
    let sum = sum_by-cons (λ (z : Outline). 1) y ys in
    let none : sum_by (λ (z : Outline). 1) [] ≡ 0 = refl in
    absurd (omega arith)
one_order (x ∷ xs) [] strict sorted same =
    let whole = same (λ z. 1) in
    let sum = sum_by-cons (λ (z : Outline). 1) x xs in
    let none : sum_by (λ (z : Outline). 1) [] ≡ 0 = refl in
    absurd (omega arith)
one_order (x ∷ xs) (y ∷ ys) strict sorted same =
    let head = same_head x y xs ys strict sorted same in
    let rest = one_order xs ys strict.1 sorted.1 (tails_alike x xs ys (subst (λ (z : Outline). Alike (x ∷ xs) (z ∷ ys)) (sym head) same)) in
    ap₂ (λ (z : Outline) (zs : List Outline). z ∷ zs) head rest

-- ---- files of a bag, and files that are listed

strict_files : (start : List ℕ) (files : List File) → Ascends start files
    → AllByRecursion (λ (z : Outline). comes_before start z.0 ≡ true) (map file_outline files) × Strict (map file_outline files)
strict_files start [] up = (tt, tt)
strict_files start (f ∷ fs) up =
    let later = strict_files f.path fs up.1 in
    ((up.0, all_weaker (λ (z : Outline). comes_before f.path z.0 ≡ true) (λ (z : Outline). comes_before start z.0 ≡ true) (map file_outline fs) (λ z h. before_chain start f.path z.0 up.0 h) later.0), later)

all_listed : (P : Outline → Type 0) (ls : List Listed) → ((j : ℕ) (d : Listed) → j < length ls → P (listed_outline (get_or ls j d))) → AllByRecursion P (map listed_outline ls)
all_listed P [] h = tt
all_listed P (l ∷ ls) h = (h 0 l (omega arith), all_listed P ls (λ j d lt. h (suc j) d (omega arith)))

sorted_listed : (ls : List Listed) → ((i j : ℕ) (d : Listed) → i ≤ j → j < length ls → comes_before (string_bytes (get_or ls j d).path) (string_bytes (get_or ls i d).path) ≡ false)
    → Sorted (map listed_outline ls)
sorted_listed [] h = tt
sorted_listed (l ∷ ls) h = (
  all_listed (λ z. before z (listed_outline l) ≡ false) ls (λ j d lt. h 0 (suc j) d (omega arith) (omega arith)),
  sorted_listed ls (λ i j d le lt. h (suc i) (suc j) d (omega arith) (omega arith)),
)

files_from : (ls : List Listed) (fs : List File) → map file_outline fs ≡ map listed_outline ls → AreFilesOf ls fs
files_from [] [] e = tt
files_from [] (f ∷ fs) e = absurd (cc e)
files_from (l ∷ ls) [] e = absurd (cc e)
files_from (l ∷ ls) (f ∷ fs) e =
    let head : file_outline f ≡ listed_outline l = ap (λ (xs : List Outline). get_or xs 0 (file_outline f)) e in
    (ap (λ (z : Outline). z.0) head, ap (λ (z : Outline). z.1) head, files_from ls fs (ap (drop 1) e))

pub found_again : (files : List File) (found listed : List Listed) → IsBag files → AreFoundAgain files found → AreInPathOrder found listed → AreFilesOf listed files
found_again files found listed bag again put =
    let moved = IsPermutation-trans (map file_outline files) (map listed_outline found) (map listed_outline listed) again (IsPermutation-map listed_outline found listed put.same) in
    let strict = (strict_files [] files bag.ascending).1 in
    let sorted = sorted_listed listed (λ i j d le lt. sorted_far _ by_path listed put.order i j d le lt) in
    files_from listed files (one_order (map file_outline files) (map listed_outline listed) strict sorted
    (λ f. sym (sum_by-IsPermutation f (map file_outline files) (map listed_outline listed) moved)))
