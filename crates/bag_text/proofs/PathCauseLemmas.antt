-- A cause is found exactly where a path isn't good.
use Rattle.bag_text.proofs.FirstLemmas.{◌≡◌, ℕ, Bool, true, false, cond, List, [], ◌∷◌, length, refl, sym, ap, subst, ◌∙◌, not, Option, Some, None, IsSome, codes, bytes_eq, find, ◌↔◌, ◌==◌, inl, inr, list_any, is_utf8, false≢true, or_parts, or_from, Version, V0_97, same_Some, is_some, begins_with, GoodPath, segments, IsNoGoodPath, Spells, nothing, triple, itself, coded_character, leading_escape, decode, has_coded, ◌||◌, ◌⊎◌, ◌&&◌, spells_decoded, spelled_is_decoded, no_fault, none_rows, not_empty, rows_none, without_fault}
use Rattle.bag_text.specs.declared.causes.PathCause.{PathCause}
use Rattle.bag_text.specs.declared.causes.PathCause.TheVariants.{NotUtf8, TooLong, EmptySegment, DotSegment, DotDotSegment, Nul}
use Rattle.bag_text.specs.PathCauses.{own_causes, stands_for}

-- ---- no segment passes either of two tests exactly where none passes the first and none the second

none_of_either : {X : Type 0} (p q : X → Bool) (xs : List X) → list_any p xs ≡ false → list_any q xs ≡ false → list_any (λ x. p x || q x) xs ≡ false
none_of_either p q [] none none_too = refl
none_of_either p q (x ∷ xs) none none_too =
    let here = or_parts (p x) (list_any p xs) none in
    let here_too = or_parts (q x) (list_any q xs) none_too in
    or_from (p x || q x) (list_any (λ y. p y || q y) xs) (or_from (p x) (q x) here.0 here_too.0) (none_of_either p q xs here.1 here_too.1)

none_of_both : {X : Type 0} (p q : X → Bool) (xs : List X) → list_any (λ x. p x || q x) xs ≡ false → (list_any p xs ≡ false) × (list_any q xs ≡ false)
none_of_both p q [] none = (refl, refl)
none_of_both p q (x ∷ xs) none =
    let here = or_parts (p x || q x) (list_any (λ y. p y || q y) xs) none in
    let parts = or_parts (p x) (q x) here.0 in
    let rest = none_of_both p q xs here.1 in
    (or_from (p x) (list_any p xs) parts.0 rest.0, or_from (q x) (list_any q xs) parts.1 rest.1)

abbrev is_dot : List ℕ → Bool
is_dot segment = bytes_eq segment (codes ".")

abbrev is_dot_dot : List ℕ → Bool
is_dot_dot segment = bytes_eq segment (codes "..")

-- ---- no cause stands

record NoCause (path : List ℕ) : Type 0 where
  utf8 : is_utf8 path ≡ true
  short : stands_for [] path TooLong ≡ false
  full : stands_for [] path EmptySegment ≡ false
  no_dot : stands_for [] path DotSegment ≡ false
  no_dot_dot : stands_for [] path DotDotSegment ≡ false
  no_nul : stands_for [] path Nul ≡ false

abbrev cause_in : List ℕ → Option PathCause
cause_in path = find (stands_for [] path) own_causes

no_cause : (path : List ℕ) → cause_in path ≡ None → NoCause path
no_cause path e = by_tests (is_utf8 path) (stands_for [] path TooLong) (stands_for [] path EmptySegment) (stands_for [] path DotSegment) (stands_for [] path DotDotSegment) (stands_for [] path Nul) refl refl refl refl refl refl e
  where
    by_tests : (a b c d f g : Bool) → is_utf8 path ≡ a → stands_for [] path TooLong ≡ b → stands_for [] path EmptySegment ≡ c → stands_for [] path DotSegment ≡ d → stands_for [] path DotDotSegment ≡ f → stands_for [] path Nul ≡ g
        → cond (not a) (Some NotUtf8) (cond b (Some TooLong) (cond c (Some EmptySegment) (cond d (Some DotSegment) (cond f (Some DotDotSegment) (cond g (Some Nul) None))))) ≡ None → NoCause path
    by_tests true false false false false false p q r s t u e = record { utf8 = p; short = q; full = r; no_dot = s; no_dot_dot = t; no_nul = u }
    by_tests _ _ _ _ _ _ p q r s t u e = absurd cc

-- an empty path has an empty segment
some_path : (path : List ℕ) → stands_for [] path EmptySegment ≡ false → (length path == 0) ≡ false
some_path [] e = absurd (false≢true (sym e))
some_path (b ∷ t) e = not_empty (b ∷ t) (λ same. cc)

good_without_cause : (path : List ℕ) → cause_in path ≡ None → GoodPath path
good_without_cause path e =
    let none = no_cause path e in
    without_fault path none.utf8 (none_rows path (record {
      some = some_path path none.full;
      short = none.short;
      full = none.full;
      no_dots = none_of_either is_dot is_dot_dot (segments path) none.no_dot none.no_dot_dot;
      no_nul = none.no_nul;
    }))

no_cause_in_good : (path : List ℕ) → GoodPath path → cause_in path ≡ None
no_cause_in_good path good =
    let rows = rows_none path (no_fault path good) in
    let dots = none_of_both is_dot is_dot_dot (segments path) rows.no_dots in
    rw (good.utf8, rows.short, rows.full, dots.0, dots.1, rows.no_nul) refl

-- a cause is found where the path isn't good
found_of : (path : List ℕ) (cause : Option PathCause) → cause_in path ≡ cause → (GoodPath path → ⊥) → IsSome cause
found_of path (Some cause) e bad = refl
found_of path None e bad = absurd (bad (good_without_cause path e))

bad_of : (path : List ℕ) (cause : Option PathCause) → cause_in path ≡ cause → IsSome cause → GoodPath path → ⊥
bad_of path None e some good = absurd (false≢true some)
bad_of path (Some cause) e some good = let none = no_cause_in_good path good in absurd cc

-- A spelled path that begins with no `*` has a cause exactly where the path that it spells isn't good.
pub found_where_bad : (v : Version) (spelled path : List ℕ) (cause : Option PathCause) → begins_with 42 spelled ≡ false → path ≡ decode v spelled → cause ≡ cause_in path → IsSome cause ↔ IsNoGoodPath v spelled
found_where_bad v spelled path cause star is found = (there, back)
  where
    there : IsSome cause → IsNoGoodPath v spelled
    there some = inr (path, subst (Spells v spelled) (sym is) (spells_decoded v spelled), bad_of path cause (sym found) some)

    back : IsNoGoodPath v spelled → IsSome cause
    back (inl starred) = absurd (false≢true (sym star ∙ starred))
    back (inr (other, spells, bad)) = found_of path cause (sym found) (subst (λ (p : List ℕ). GoodPath p → ⊥) (sym (is ∙ spelled_is_decoded v spelled other spells)) bad)

-- ---- what version 0.97 can't list

-- what is decoded there is the end of a line
ends_a_line : (a b c x : ℕ) → coded_character V0_97 a b c ≡ Some x → (x ≡ 10) ⊎ (x ≡ 13)
ends_a_line a b c x e = by_tests (not (a == 37)) (b == 48 && (c == 65 || c == 97)) (b == 48 && (c == 68 || c == 100)) (b == 50 && c == 53) e
  where
    by_tests : (p q r s : Bool) → cond p None (cond q (Some 10) (cond r (Some 13) (cond s None None))) ≡ Some x → (x ≡ 10) ⊎ (x ≡ 13)
    by_tests true q r s e = absurd cc
    by_tests false true r s e = inl (sym (same_Some 10 x e))
    by_tests false false true s e = inr (sym (same_Some 13 x e))
    by_tests false false false true e = absurd cc
    by_tests false false false false e = absurd cc

abbrev IsFree : List ℕ → Type 0
IsFree path = leading_escape V0_97 path ≡ None

-- no triple begins, goes on or ends with the end of a line
free_first : (x : ℕ) → (x ≡ 10) ⊎ (x ≡ 13) → (path : List ℕ) → IsFree (x ∷ path)
free_first x is [] = refl
free_first x is (b ∷ []) = refl
free_first x (inl is) (b ∷ c ∷ path) = rw is refl
free_first x (inr is) (b ∷ c ∷ path) = rw is refl

none_coded : (p : Bool) → ◌≡◌ {A = Option ℕ} (cond p None None) None
none_coded true = refl
none_coded false = refl

free_second : (a x : ℕ) → (x ≡ 10) ⊎ (x ≡ 13) → (path : List ℕ) → IsFree (a ∷ x ∷ path)
free_second a x is [] = refl
free_second a x (inl is) (c ∷ path) = rw is (none_coded (not (a == 37)))
free_second a x (inr is) (c ∷ path) = rw is (none_coded (not (a == 37)))

free_third : (a b x : ℕ) → (x ≡ 10) ⊎ (x ≡ 13) → (path : List ℕ) → IsFree (a ∷ b ∷ x ∷ path)
free_third a b x is path = elim is [ inl is ↦ rw is (by_tests (not (a == 37)) (b == 48) (b == 50)) | inr is ↦ rw is (by_tests (not (a == 37)) (b == 48) (b == 50)) ]
  where
    by_tests : (p q r : Bool) → ◌≡◌ {A = Option ℕ} (cond p None (cond (q && false) (Some 10) (cond (q && false) (Some 13) (cond (r && false) None None)))) None
    by_tests true q r = refl
    by_tests false true true = refl
    by_tests false true false = refl
    by_tests false false true = refl
    by_tests false false false = refl

free_spelled : (a : ℕ) (s p : List ℕ) → IsFree (a ∷ s) → Spells V0_97 s p → IsFree (a ∷ p)
free_spelled a s p free nothing = refl
free_spelled a s p free (triple {a = d} {b = e} {c = f} {x = x} {s = t} {p = q} coded rest) = free_second a x (ends_a_line d e f x coded) q
free_spelled a s p free (itself {a = b} {s = t} {p = q} apart rest) = of_third t q free rest
  where
    of_third : (t q : List ℕ) → IsFree (a ∷ b ∷ t) → Spells V0_97 t q → IsFree (a ∷ b ∷ q)
    of_third t q free nothing = refl
    of_third t q free (triple {a = d} {b = e} {c = f} {x = x} {s = u} {p = r} coded rest) = free_third a b x (ends_a_line d e f x coded) r
    of_third t q free (itself {a = c} {s = u} {p = r} apart rest) = free

-- In version 0.97 no path that is spelled has a coded triple in it.
pub never_listed : (s p : List ℕ) → Spells V0_97 s p → has_coded V0_97 p ≡ false
never_listed s p nothing = refl
never_listed s p (triple {a = a} {b = b} {c = c} {x = x} {s = t} {p = q} coded rest) = or_from (is_some (leading_escape V0_97 (x ∷ q))) (has_coded V0_97 q) (ap is_some (free_first x (ends_a_line a b c x coded) q)) (never_listed t q rest)
never_listed s p (itself {a = a} {s = t} {p = q} free rest) = or_from (is_some (leading_escape V0_97 (a ∷ q))) (has_coded V0_97 q) (ap is_some (free_spelled a t q free rest)) (never_listed t q rest)
