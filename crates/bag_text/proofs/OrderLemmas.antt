-- The order of paths, and what a search finds in a list of files that ascends.
use Rattle.bag_text.proofs.Common.{same_Some, ltb-true, ltb-false, eqb-true, eqb-false, inl, inr, cases_Bool, false_from_ne_true, false≢true, ◌≡◌, ℕ, zero, suc, ◌<◌, ◌≤◌, ◌≢◌, Bool, true, false, cond, eqb, ltb, not, ◌&&◌, List, [], ◌∷◌, ◌++◌, length, get_or, take, drop, map, refl, sym, ap, subst, ◌∙◌, arith, Option, Some, None, option_map, find, bytes_eq, eqb as nat_eq, slice_get, Contains, is_some, IsNone, MatchOption, list_any, AllWithin, HoldsAt, starts_with, nat_cmp, is_lt, is_eq, ordering_then, ordering_reverse, Ordering, Less, Equal, Greater, slice_cmp, and_right, nat_tests, take-append-drop, bytes_eq-Decides, comes_before, File, Ascends, content_at, file_of, files_of, IsPositionOf, ◌↔◌, nat_list_cmp_total, is_eq-slice_cmp, Bor}
use Rattle.std.specs.List.Sorted.{IsPartitionedBy}
use Rattle.bag_text.proofs.CaseLemmas.{by_Bool, by_Option, by_Ordering}

-- ---- the order of two paths

abbrev pub path_cmp : List ℕ → List ℕ → Ordering
path_cmp = slice_cmp nat_cmp

-- what is less compares so
pub less : (o : Ordering) → is_lt o ≡ true → o ≡ Less
less Less e = refl
less Equal e = absurd cc
less Greater e = absurd cc

-- What comes before a path comes before what that comes before.
pub before_chain : (a b c : List ℕ) → comes_before a b ≡ true → comes_before b c ≡ true → comes_before a c ≡ true
before_chain a b c e g = ap is_lt (nat_list_cmp_total.trans a b c (less (path_cmp a b) e) (less (path_cmp b c) g))

-- a path that comes before another is another
pub before_differs : (a b : List ℕ) → comes_before a b ≡ true → bytes_eq a b ≡ false
before_differs a b e = sym (is_eq-slice_cmp a b) ∙ ap is_eq (less (path_cmp a b) e)

-- What neither comes before a path nor is that path comes after it.
pub after : (a b : List ℕ) → comes_before a b ≡ false → bytes_eq a b ≡ false → comes_before b a ≡ true
after a b e g = by_Ordering (path_cmp a b)
    (λ is. absurd (let k = sym e ∙ ap is_lt is in cc))
    (λ is. absurd (let k = sym g ∙ sym (is_eq-slice_cmp a b) ∙ ap is_eq is in cc))
    (λ is. ap is_lt (nat_list_cmp_total.antisymm b a ∙ ap ordering_reverse is))

-- ---- a path and a folder's name

abbrev then : ℕ → ℕ → Ordering → Ordering
then x y o = ordering_then (nat_cmp x y) o

regroup : (o p q : Ordering) → ordering_then o (ordering_then p q) ≡ ordering_then (ordering_then o p) q
regroup Less p q = refl
regroup _ p q = refl

-- What has as many bytes decides, and else what follows.
pub cmp_append : (a b rest tail : List ℕ) → length a ≡ length b → path_cmp (a ++ rest) (b ++ tail) ≡ ordering_then (path_cmp a b) (path_cmp rest tail)
cmp_append [] [] rest tail e = refl
cmp_append [] (y ∷ b) rest tail e = absurd (omega arith)
cmp_append (x ∷ a) [] rest tail e = absurd (omega arith)
cmp_append (x ∷ a) (y ∷ b) rest tail e = ap (ordering_then (nat_cmp x y)) (cmp_append a b rest tail (omega arith)) ∙ regroup (nat_cmp x y) (path_cmp a b) (path_cmp rest tail)

-- A path that is no longer than a folder's comes before what lies in it, unless it comes after the folder.
pub not_longer : (a b : List ℕ) → length a ≤ length b → comes_before a (b ++ 47 ∷ []) ≡ not (comes_before b a)
not_longer [] [] e = refl
not_longer [] (y ∷ b) e = refl
not_longer (x ∷ a) [] e = absurd (omega arith)
not_longer (x ∷ a) (y ∷ b) e = by_first (ltb x y) (eqb x y) (ltb y x) (eqb y x) refl refl refl refl (not_longer a b (omega arith))
  where
    by_first : (lt eq gt qe : Bool) → ltb x y ≡ lt → eqb x y ≡ eq → ltb y x ≡ gt → eqb y x ≡ qe → comes_before a (b ++ 47 ∷ []) ≡ not (comes_before b a)
        → is_lt (ordering_then (cond lt Less (cond eq Equal Greater)) (path_cmp a (b ++ 47 ∷ []))) ≡ not (is_lt (ordering_then (cond gt Less (cond qe Equal Greater)) (path_cmp b a)))
    by_first true eq true qe l e g q again = let under = ltb-true _ _ l in let over = ltb-true _ _ g in absurd (omega arith)
    by_first true eq false true l e g q again = let under = ltb-true _ _ l in let same = eqb-true _ _ q in absurd (omega arith)
    by_first true eq false false l e g q again = refl
    by_first false true true qe l e g q again = let same = eqb-true _ _ e in let over = ltb-true _ _ g in absurd (omega arith)
    by_first false true false true l e g q again = again
    by_first false true false false l e g q again = absurd (eqb-false _ _ q (sym (eqb-true _ _ e)))
    by_first false false true qe l e g q again = refl
    by_first false false false qe l e g q again = let up = ltb-false _ _ l in let down = ltb-false _ _ g in absurd (eqb-false _ _ e (omega arith))

-- A longer path comes before what lies in a folder as its front decides, and else what follows.
pub longer : (path folder front rest : List ℕ) (o : Ordering) → front ≡ take (length folder) path → rest ≡ drop (length folder) path → length front ≡ length folder → path_cmp front folder ≡ o
    → comes_before path (folder ++ 47 ∷ []) ≡ is_lt (ordering_then o (path_cmp rest (47 ∷ [])))
longer path folder front rest o taken dropped long decides =
    let is : path ≡ front ++ rest = sym (take-append-drop (length folder) path) ∙ rw (taken, dropped) refl in
    ap (λ (p : List ℕ). comes_before p (folder ++ 47 ∷ [])) is ∙ ap is_lt (cmp_append front folder rest (47 ∷ []) long) ∙ ap (λ (o : Ordering). is_lt (ordering_then o (path_cmp rest (47 ∷ [])))) decides

-- Bytes come before a slash where the first is less than it.
pub before_slash : (b : ℕ) (rest : List ℕ) → comes_before (b ∷ rest) (47 ∷ []) ≡ ltb b 47
before_slash b rest = by_first (ltb b 47) (eqb b 47) rest
  where
    by_first : (lt eq : Bool) (rest : List ℕ) → is_lt (ordering_then (cond lt Less (cond eq Equal Greater)) (path_cmp rest [])) ≡ lt
    by_first true eq rest = refl
    by_first false true [] = refl
    by_first false true (b ∷ rest) = refl
    by_first false false rest = refl

-- the same, of the first byte of what isn't empty
pub first_before_slash : (rest : List ℕ) → 0 < length rest → comes_before rest (47 ∷ []) ≡ ltb (get_or rest 0 0) 47
first_before_slash [] some = absurd (omega arith)
first_before_slash (b ∷ rest) some = before_slash b rest

-- ---- what begins with a text stands together

-- no path that comes before a text begins with it
pub low_begins : (q a : List ℕ) → comes_before a q ≡ true → starts_with nat_eq a q ≡ false
low_begins [] [] e = absurd cc
low_begins [] (y ∷ a) e = absurd cc
low_begins (x ∷ q) [] e = refl
low_begins (x ∷ q) (y ∷ a) e = by_first (ltb y x) (eqb y x) refl refl e (low_begins q a)
  where
    by_first : (lt eq : Bool) → ltb y x ≡ lt → eqb y x ≡ eq → is_lt (ordering_then (cond lt Less (cond eq Equal Greater)) (path_cmp a q)) ≡ true → (comes_before a q ≡ true → starts_with nat_eq a q ≡ false) → (eqb x y && starts_with nat_eq a q) ≡ false
    by_first true eq l s e again = let other : eqb x y ≡ false = differs x y l in rw other refl
      where
        differs : (x y : ℕ) → ltb y x ≡ true → eqb x y ≡ false
        differs x y l = grind (arith, nat_tests)
    by_first false true l s e again = rw (again e) (and_right (eqb x y) false refl)
    by_first false false l s e again = absurd cc

-- After a path that neither comes before a text nor begins with it, none begins with it.
pub high_begins : (q b c : List ℕ) → comes_before b q ≡ false → starts_with nat_eq b q ≡ false → comes_before b c ≡ true → starts_with nat_eq c q ≡ false
high_begins [] b c e g h = absurd cc
high_begins (x ∷ q) [] c e g h = absurd cc
high_begins (x ∷ q) (y ∷ b) [] e g h = absurd cc
high_begins (x ∷ q) (y ∷ b) (z ∷ c) e g h = by_first (ltb y x) (eqb y x) (ltb y z) (eqb y z) refl refl refl refl e g h (high_begins q b c)
  where
    above : (x y z : ℕ) → ltb y x ≡ false → ltb y z ≡ true → (eqb x z && starts_with nat_eq c q) ≡ false
    above x y z l g = let other : eqb x z ≡ false = grind (arith, nat_tests) in rw other refl

    level : (x y z : ℕ) → ltb y x ≡ false → eqb y x ≡ false → eqb y z ≡ true → (eqb x z && starts_with nat_eq c q) ≡ false
    level x y z l e g = let other : eqb x z ≡ false = grind (arith, nat_tests) in rw other refl

    same : (x y : ℕ) (s : Bool) → eqb y x ≡ true → (eqb x y && s) ≡ false → s ≡ false
    same x y s e g = let it : eqb x y ≡ true = grind (arith, nat_tests) in rw it at g

    by_first : (lt eq tl qe : Bool) → ltb y x ≡ lt → eqb y x ≡ eq → ltb y z ≡ tl → eqb y z ≡ qe
        → is_lt (ordering_then (cond lt Less (cond eq Equal Greater)) (path_cmp b q)) ≡ false → (eqb x y && starts_with nat_eq b q) ≡ false
        → is_lt (ordering_then (cond tl Less (cond qe Equal Greater)) (path_cmp b c)) ≡ true
        → (comes_before b q ≡ false → starts_with nat_eq b q ≡ false → comes_before b c ≡ true → starts_with nat_eq c q ≡ false) → (eqb x z && starts_with nat_eq c q) ≡ false
    by_first true eq tl qe l s t u e g h again = absurd cc
    by_first false eq true qe l s t u e g h again = above x y z l t
    by_first false true false true l s t u e g h again = rw (again e (same x y (starts_with nat_eq b q) s g) h) (and_right (eqb x z) false refl)
    by_first false false false true l s t u e g h again = level x y z l s u
    by_first false eq false false l s t u e g h again = absurd cc

-- ---- a search in a list that ascends

module _ {X : Type 0} (g : X → File) where
  -- each file comes after what the list ascends from
  pub all_after : (before : List ℕ) (xs : List X) → Ascends before (map g xs) → (i : ℕ) (d : X) → i < length xs → comes_before before (g (get_or xs i d)).path ≡ true
  all_after before [] up i d lt = absurd (omega arith)
  all_after before (x ∷ xs) up zero d lt = up.0
  all_after before (x ∷ xs) up (suc i) d lt = before_chain before (g x).path (g (get_or xs i d)).path up.0 (all_after (g x).path xs up.1 i d (omega arith))

  -- the paths that come before a text stand in front of the others
  pub partitioned : (q before : List ℕ) (xs : List X) → Ascends before (map g xs) → IsPartitionedBy (λ x. comes_before (g x).path q) xs
  partitioned q before [] up i j d le lt e = absurd (omega arith)
  partitioned q before (x ∷ xs) up zero zero d le lt e = e
  partitioned q before (x ∷ xs) up zero (suc j) d le lt e = before_chain (g x).path (g (get_or xs j d)).path q (all_after (g x).path xs up.1 j d (omega arith)) e
  partitioned q before (x ∷ xs) up (suc i) zero d le lt e = absurd (omega arith)
  partitioned q before (x ∷ xs) up (suc i) (suc j) d le lt e = partitioned q (g x).path xs up.1 i j d (omega arith) (omega arith) e

  -- what is found at a place
  abbrev pub tried : (List ℕ → Bool) → Option X → Option File
  tried test None = None
  tried test (Some x) = cond (test (g x).path) (Some (g x)) None

  -- a test that nothing before q passes, and nothing after what neither comes before q nor passes it
  pub record StandsAt (q : List ℕ) (test : List ℕ → Bool) : Type 0 where
    pub low : (a : List ℕ) → comes_before a q ≡ true → test a ≡ false
    pub high : (b c : List ℕ) → comes_before b q ≡ false → test b ≡ false → comes_before b c ≡ true → test c ≡ false

  none_behind : (q : List ℕ) (test : List ℕ → Bool) → StandsAt q test → (b : List ℕ) (xs : List X) → Ascends b (map g xs) → comes_before b q ≡ false → test b ≡ false → find (λ f. test f.path) (map g xs) ≡ None
  none_behind q test at b [] up e h = refl
  none_behind q test at b (x ∷ xs) up e h =
      let not_it = at.high b (g x).path e h up.0 in
      let behind = false_from_ne_true (comes_before (g x).path q) (λ is. false≢true (sym e ∙ before_chain b (g x).path q up.0 is)) in
      rw not_it (none_behind q test at (g x).path xs up.1 behind not_it)

  -- What a search for the first place that isn't before q finds is what a search through the whole list finds.
  pub found_at : (q : List ℕ) (test : List ℕ → Bool) → StandsAt q test → (before : List ℕ) (xs : List X) → Ascends before (map g xs) → (n : ℕ)
      → AllWithin (λ x. comes_before (g x).path q ≡ true) xs 0 n → AllWithin (λ x. comes_before (g x).path q ≡ false) xs n (length xs)
      → find (λ f. test f.path) (map g xs) ≡ tried test (slice_get xs n)
  found_at q test at before [] up n front back = refl
  found_at q test at before (x ∷ xs) up zero front back =
      by_Bool (test (g x).path) (λ is. rw is refl) (λ is. rw is (none_behind q test at (g x).path xs up.1 (back 0 x (omega arith) (omega arith)) is))
  found_at q test at before (x ∷ xs) up (suc n) front back =
      let first = at.low (g x).path (front 0 x (omega arith) (omega arith)) in
      rw first (found_at q test at (g x).path xs up.1 n (λ k d ge lt. front (suc k) d (omega arith) (omega arith)) (λ k d ge lt. back (suc k) d (omega arith) (omega arith)))

-- texts that differ do so the other way round
pub other_way : (x y : List ℕ) → bytes_eq y x ≡ false → bytes_eq x y ≡ false
other_way x y e =
    false_from_ne_true (bytes_eq x y) (λ is. false≢true (sym e ∙ (bytes_eq-Decides y x).1 (sym ((bytes_eq-Decides x y).0 is))))

-- a path stands where those before it end
pub path_stands : {X : Type 0} (g : X → File) (q : List ℕ) → StandsAt g q (λ path. bytes_eq path q)
path_stands g q = record {
  low = λ a e. before_differs a q e;
  high = λ b c e h l. after_q b c (after b q e h) l;
}
  where
    after_q : (b c : List ℕ) → comes_before q b ≡ true → comes_before b c ≡ true → bytes_eq c q ≡ false
    after_q b c e l = other_way c q (before_differs q c (before_chain q b c e l))

-- what begins with a text stands where those before it end
pub beginnings_stand : {X : Type 0} (g : X → File) (q : List ℕ) → StandsAt g q (λ path. starts_with nat_eq path q)
beginnings_stand g q = record { low = low_begins q; high = high_begins q }

-- what looking up a place of a slice answers
pub looked_up : {X : Type 0} (xs : List X) (n : ℕ) (r : Option (Bor X)) → MatchOption r (length xs ≤ n) (λ x. (n < length xs) × HoldsAt (λ y. x.now ≡ y) xs n) → slice_get xs n ≡ option_map (λ x. x.now) r
looked_up [] n None past = refl
looked_up [] n (Some x) at = absurd (let k = at.0 in omega arith)
looked_up (x ∷ xs) zero None past = absurd (omega arith)
looked_up (x ∷ xs) (suc n) None past = looked_up xs n None (omega arith)
looked_up (x ∷ xs) zero (Some y) at = ap (λ z. Some z) (sym (at.1 x))
looked_up (x ∷ xs) (suc n) (Some y) at = looked_up xs n (Some y) ((let k = at.0 in omega arith), at.1)

-- What stands where the paths before a path end decides the content there.
pub content_is : (files : List (Bor (List ℕ) × Bor (List ℕ))) (path : List ℕ) (n : ℕ) (r : Option (Bor (Bor (List ℕ) × Bor (List ℕ)))) → Ascends [] (files_of files)
    → IsPositionOf path files n
    → MatchOption r (length files ≤ n) (λ x. (n < length files) × HoldsAt (λ y. x.now ≡ y) files n)
    → content_at (files_of files) path ≡ option_map (λ f. f.content) (tried file_of (λ p. bytes_eq p path) (option_map (λ x. x.now) r))
content_is files path n r up point at =
    ap (option_map (λ f. f.content)) (found_at file_of path (λ p. bytes_eq p path) (path_stands file_of path) [] files up n point.0 point.1 ∙ ap (tried file_of (λ p. bytes_eq p path)) (looked_up files n r at))

-- a test passes where it finds something
any_is_found : {A : Type 0} (test : A → Bool) (xs : List A) → list_any test xs ≡ is_some (find test xs)
any_is_found test [] = refl
any_is_found test (x ∷ xs) = elim (cases_Bool (test x)) [ inl is ↦ rw is refl | inr is ↦ rw is (any_is_found test xs) ]

-- What stands where the paths before a text end decides whether a path begins with it.
pub begins_is : (files : List (Bor (List ℕ) × Bor (List ℕ))) (q : List ℕ) (n : ℕ) (r : Option (Bor (Bor (List ℕ) × Bor (List ℕ)))) → Ascends [] (files_of files)
    → IsPositionOf q files n
    → MatchOption r (length files ≤ n) (λ x. (n < length files) × HoldsAt (λ y. x.now ≡ y) files n)
    → list_any (λ f. starts_with nat_eq f.path q) (files_of files) ≡ is_some (tried file_of (λ p. starts_with nat_eq p q) (option_map (λ x. x.now) r))
begins_is files q n r up point at =
    any_is_found (λ f. starts_with nat_eq f.path q) (files_of files)
    ∙ ap is_some (found_at file_of q (λ p. starts_with nat_eq p q) (beginnings_stand file_of q) [] files up n point.0 point.1 ∙ ap (tried file_of (λ p. starts_with nat_eq p q)) (looked_up files n r at))

-- ---- the content at a path

-- The content at a path is that of a file of the list.
pub content_stands : (files : List File) (path content : List ℕ) → content_at files path ≡ Some content → Contains files (record { path = path; content = content })
content_stands [] path content e = absurd cc
content_stands (f ∷ files) path content e = by_Bool (bytes_eq f.path path)
    (λ is.
    let same : f.path ≡ path = (bytes_eq-Decides f.path path).0 is in
    let also : f.content ≡ content = same_Some f.content content (rw is at e) in
    (0, omega arith, rw (← same, ← also) refl))
    (λ is. let later = content_stands files path content (rw is at e) in (suc later.0, (let k = later.1 in omega arith), later.2))

-- A file of a list that ascends is the one whose content stands at its path.
pub content_found : (before : List ℕ) (files : List File) (path content : List ℕ) → Ascends before files → Contains files (record { path = path; content = content }) → content_at files path ≡ Some content
content_found before files path content up at = by_place before files up at.0 at.1 at.2
  where
    wanted : File
    wanted = record { path = path; content = content }

    itself : bytes_eq path path ≡ true
    itself = (bytes_eq-Decides path path).1 refl

    by_place : (before : List ℕ) (files : List File) → Ascends before files → (k : ℕ) → k < length files → get_or files k wanted ≡ wanted → content_at files path ≡ Some content
    by_place before [] up k lt is = absurd (omega arith)
    by_place before (f ∷ files) up zero lt is = rw (is, itself) refl
    by_place before (f ∷ files) up (suc k) lt is =
        let behind = all_after (λ f. f) f.path files (subst (λ (fs : List File). Ascends f.path fs) (sym (map_itself files)) up.1) k wanted (omega arith) in
        let other : bytes_eq f.path path ≡ false = before_differs f.path path (subst (λ (g : File). comes_before f.path g.path ≡ true) is behind) in
        rw other (by_place f.path files up.1 k (omega arith) is)
      where
        map_itself : (fs : List File) → map (λ f. f) fs ≡ fs
        map_itself [] = refl
        map_itself (f ∷ fs) = ap (λ (t : List File). f ∷ t) (map_itself fs)

no_file : (path : List ℕ) (files : List File) → IsNone (content_at files path) → (f : File) (k : ℕ) → k < length files → get_or files k f ≡ f → f.path ≡ path → ⊥
no_file path [] none f k lt is same = absurd (omega arith)
no_file path (x ∷ files) none f zero lt is same = let wrong = rw ((bytes_eq-Decides x.path path).1 (ap (λ (f : File). f.path) is ∙ same)) at none in absurd cc
no_file path (x ∷ files) none f (suc k) lt is same = by_Bool (bytes_eq x.path path)
    (λ it. let wrong = rw it at none in absurd cc)
    (λ isnt. no_file path files (rw isnt at none) f k (omega arith) is same)

-- No content stands at a path exactly where no file has it.
pub content_missing : (files : List File) (path : List ℕ) → IsNone (content_at files path) ↔ ((f : File) → Contains files f → f.path ≢ path)
content_missing files path = (
  λ none f at same. no_file path files none f at.0 at.1 at.2 same,
  λ other. by_Option (content_at files path)
      (λ is. rw is refl)
      (λ content is. absurd (other (record { path = path; content = content }) (content_stands files path content is) refl)),
)

-- whether there is a content is whether there is one by the reference
pub none_copied : (r : Option (Bor (List ℕ))) (o : Option (List ℕ)) → option_map (λ x. x.now) r ≡ o → is_some r ≡ is_some o
none_copied None o e = ap is_some e
none_copied (Some x) o e = ap is_some e

-- what is found passes the test
pub found_is : (x : Bor (List ℕ) × Bor (List ℕ)) (q : List ℕ) → is_some (tried file_of (λ p. starts_with nat_eq p q) (Some x)) ≡ starts_with nat_eq x.0.now q
found_is x q = elim (cases_Bool (starts_with nat_eq x.0.now q)) [ inl is ↦ rw is refl | inr is ↦ rw is refl ]
