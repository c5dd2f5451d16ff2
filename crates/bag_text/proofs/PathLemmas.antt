-- Good paths.
use Rattle.bag_text.proofs.Common.{◌≡◌, ℕ, suc, zero, Bool, true, false, cond, eqb, ltb, List, [], ◌∷◌, length, refl, sym, ap, subst, ◌∙◌, arith, ◌≢◌, Some, None, is_none, codes, bytes_eq, Contains, IsUtf8, ◌↔◌, list_any, is_utf8, ltb-false, or_parts, or_from, and_parts, and_from, false_from_ne_true, nat_tests, bytes_eq-Decides, is_utf8-from_IsUtf8, GoodPath, is_good, path_fault, path_has, segments, is_dots_of, max_path, PathFault}
use Rattle.bag_text.specs.declared.path.PathFault.TheVariants.{Empty, TooLong, EmptySegment, DotSegment, Nul}
use Rattle.bag_text.proofs.ResultLemmas.{is_nothing}

-- where no element passes, each one fails
pub none_such : {X : Type 0} (p : X → Bool) (xs : List X) (x : X) → list_any p xs ≡ false → Contains xs x → p x ≡ false
none_such p [] x h (k, short, is) = absurd (omega arith)
none_such p (y ∷ ys) x h (zero, short, is) = ap p (sym is) ∙ (or_parts (p y) (list_any p ys) h).0
none_such p (y ∷ ys) x h (suc k, short, is) = none_such p ys x (or_parts (p y) (list_any p ys) h).1 (k, omega arith, is)

-- where each element fails, none passes
pub none_any : {X : Type 0} (p : X → Bool) (xs : List X) → ((x : X) → Contains xs x → p x ≡ false) → list_any p xs ≡ false
none_any p [] each = refl
none_any p (y ∷ ys) each = or_from (p y) (list_any p ys) (each y (zero, omega arith, refl)) (none_any p ys (λ x h. each x (suc h.0, omega (arith, h.1), h.2)))

-- no row of the faults stands
pub record NoRow (path : List ℕ) : Type 0 where
  pub some : path_has path Empty ≡ false
  pub short : path_has path TooLong ≡ false
  pub full : path_has path EmptySegment ≡ false
  pub no_dots : path_has path DotSegment ≡ false
  pub no_nul : path_has path Nul ≡ false

pub rows_none : (path : List ℕ) → path_fault path ≡ None → NoRow path
rows_none path e = by_rows (path_has path Empty) (path_has path TooLong) (path_has path EmptySegment) (path_has path DotSegment) (path_has path Nul) refl refl refl refl refl e
  where
    by_rows : (a b c d f : Bool) → path_has path Empty ≡ a → path_has path TooLong ≡ b → path_has path EmptySegment ≡ c → path_has path DotSegment ≡ d → path_has path Nul ≡ f
        → cond a (Some Empty) (cond b (Some TooLong) (cond c (Some EmptySegment) (cond d (Some DotSegment) (cond f (Some Nul) None)))) ≡ None → NoRow path
    by_rows false false false false false p q r s t e = record { some = p; short = q; full = r; no_dots = s; no_nul = t }
    by_rows _ _ _ _ _ p q r s t e = absurd cc

pub none_rows : (path : List ℕ) → NoRow path → path_fault path ≡ None
none_rows path h = rw (h.some, h.short, h.full, h.no_dots, h.no_nul) refl

apart : (a b : List ℕ) → bytes_eq a b ≡ false → a ≢ b
apart a b e same = let yes = (bytes_eq-Decides a b).1 same in absurd cc

apart_again : (a b : List ℕ) → a ≢ b → bytes_eq a b ≡ false
apart_again a b other = false_from_ne_true (bytes_eq a b) (λ e. other ((bytes_eq-Decides a b).0 e))

empty_or_not : (t : List ℕ) → eqb (length t) 0 ≡ false → t ≢ []
empty_or_not [] e same = absurd cc
empty_or_not (b ∷ t) e same = absurd cc

-- what isn't empty has a length
pub not_empty : (t : List ℕ) → t ≢ [] → eqb (length t) 0 ≡ false
not_empty [] h = absurd (h refl)
not_empty (b ∷ t) h = grind (arith, nat_tests)

-- A UTF-8 text without fault is a good path.
pub without_fault : (path : List ℕ) → is_utf8 path ≡ true → path_fault path ≡ None → GoodPath path
without_fault path utf8 e =
    let rows = rows_none path e in
    record {
      utf8 = utf8;
      some = empty_or_not path rows.some;
      short = ltb-false max_path (length path) rows.short;
      full = λ segment in_path. empty_or_not segment (none_such (λ s. eqb (length s) 0) (segments path) segment rows.full in_path);
      no_dots = λ segment in_path.
          let neither = or_parts (bytes_eq segment (codes ".")) (bytes_eq segment (codes "..")) (none_such is_dots_of (segments path) segment rows.no_dots in_path) in
          (apart segment (codes ".") neither.0, apart segment (codes "..") neither.1);
      no_nul = λ in_path. let wrong = none_such (λ b. eqb b 0) path 0 rows.no_nul in_path in absurd cc;
    }

-- A good path has no fault.
pub no_fault : (path : List ℕ) → GoodPath path → path_fault path ≡ None
no_fault path good =
    let long : ltb max_path (length path) ≡ false = let h = good.short in grind (arith, nat_tests, h) in
    none_rows path (record {
      some = not_empty path good.some;
      short = long;
      full = none_any (λ s. eqb (length s) 0) (segments path) (λ s in_path. not_empty s (good.full s in_path));
      no_dots = none_any is_dots_of (segments path) (λ s in_path. or_from (bytes_eq s (codes ".")) (bytes_eq s (codes "..")) (apart_again s (codes ".") (good.no_dots s in_path).0) (apart_again s (codes "..") (good.no_dots s in_path).1));
      no_nul = none_any (λ b. eqb b 0) path (λ b in_path. false_from_ne_true (eqb b 0) (λ e. let zero_is : b ≡ 0 = grind (arith, nat_tests, e) in good.no_nul (subst (Contains path) zero_is in_path)));
    })

pub good_read : (path : List ℕ) → is_good path ≡ true → GoodPath path
good_read path e = let both = and_parts (is_utf8 path) (is_none (path_fault path)) e in without_fault path both.0 (is_nothing (path_fault path) both.1)

pub good_again : (path : List ℕ) → GoodPath path → is_good path ≡ true
good_again path good = and_from (is_utf8 path) (is_none (path_fault path)) good.utf8 (ap is_none (no_fault path good))

-- A path is good exactly where the computed test says so.
pub good_tested : (path : List ℕ) → GoodPath path ↔ (is_good path ≡ true)
good_tested path = (good_again path, good_read path)

-- A UTF-8 text is a good path exactly where no row of the faults stands.
pub good_unless : (path : List ℕ) → is_utf8 path ≡ true → GoodPath path ↔ (path_fault path ≡ None)
good_unless path utf8 = (no_fault path, without_fault path utf8)

-- a text without fault passes the test
pub test_passes : (path : List ℕ) → IsUtf8 path → path_fault path ≡ None → is_good path ≡ true
test_passes path utf8 none = and_from (is_utf8 path) (is_none (path_fault path)) (is_utf8-from_IsUtf8 path utf8) (ap is_none none)

-- a text with a fault is no good path
pub one_fault : (path : List ℕ) (f : PathFault) → path_fault path ≡ Some f → GoodPath path → ⊥
one_fault path f e good = let none = no_fault path good in absurd cc
