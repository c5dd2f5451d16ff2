-- Spelled paths.
use Rattle.bag_text.proofs.Common.{inl, inr, cases_Bool, ◌≡◌, ℕ, ◌+◌, ◌≤◌, true, false, not, List, [], ◌∷◌, ◌++◌, length, refl, sym, ap, subst, ◌∙◌, append_assoc, Option, Some, None, list_all, position_or_len, and_parts, or_parts, prefix_len-le-length, append-nil, same_Some, Version, is_none, is_some, Result, Ok, Err, Ordering, nat_cmp, slice_cmp, insert_entry, is_at, lookup, cow_str_bytes, Algorithm, LineFault, ListedTwice, lines, is_utf8, path_fault, is_good, is_blank, coded_character, leading_escape, has_coded, Spells, nothing, triple, itself, decode, FailsAs, next_char, Entries, entry_in, is_path_listed, entry_of, add_line_of, entries_of, named_line_fault, map, CowStr, Global, Listing}
use Rattle.bag_text.proofs.ResultLemmas.{no_value, fails_on}
use Rattle.bag_text.proofs.LineLemmas.{no_lines}
use Rattle.bag_text.proofs.CaseLemmas.{by_Ordering}

pub sum_fits : (line : List ℕ) → position_or_len is_blank line ≤ length line
sum_fits line = prefix_len-le-length (λ b. not (is_blank b)) line

abbrev next_by : ℕ → List ℕ → List ℕ → Option ℕ → Option (ℕ × List ℕ)
next_by a near far (Some x) = Some (x, far)
next_by a near far None = Some (a, near)

abbrev decode_by : Version → ℕ → List ℕ → List ℕ → Option ℕ → List ℕ
decode_by v a near far (Some x) = x ∷ decode v far
decode_by v a near far None = a ∷ decode v near

by_code : (v : Version) (a b c : ℕ) (s : List ℕ) → decode v (a ∷ b ∷ c ∷ s) ≡ decode_by v a (b ∷ c ∷ s) s (coded_character v a b c)
unfolding decode
by_code v a b c s = of_code (coded_character v a b c)
  where
    of_code : (o : Option ℕ) → (elim o as (λ x. List ℕ) [ Some x ↦ x ∷ decode v s | None ↦ a ∷ decode v (b ∷ c ∷ s) ]) ≡ decode_by v a (b ∷ c ∷ s) s o
    of_code (Some x) = refl
    of_code None = refl

next_code : (v : Version) (a b c : ℕ) (s : List ℕ) → next_char v (a ∷ b ∷ c ∷ s) ≡ next_by a (b ∷ c ∷ s) s (coded_character v a b c)
next_code v a b c s = of_code (coded_character v a b c)
  where
    of_code : (o : Option ℕ) → (elim o as (λ x. Option (ℕ × List ℕ)) [ Some x ↦ Some (x, s) | None ↦ Some (a, b ∷ c ∷ s) ]) ≡ next_by a (b ∷ c ∷ s) s o
    of_code (Some x) = refl
    of_code None = refl

abbrev onto : Version → ℕ × List ℕ → List ℕ
onto v x = x.0 ∷ decode v x.1

short_step : (v : Version) (a x : ℕ) (s rest t : List ℕ) → t ≡ a ∷ decode v s → ◌≡◌ {A = Option (ℕ × List ℕ)} (Some (a, s)) (Some (x, rest)) → t ≡ x ∷ decode v rest
short_step v a x s rest t is e = is ∙ ap (onto v) (same_Some (a, s) (x, rest) e)

pub decode_step : (v : Version) (s : List ℕ) (x : ℕ) (rest : List ℕ) → next_char v s ≡ Some (x, rest) → decode v s ≡ x ∷ decode v rest
unfolding decode
decode_step v [] x rest e = absurd cc
decode_step v (a ∷ []) x rest e = short_step v a x [] rest (a ∷ []) refl e
decode_step v (a ∷ b ∷ []) x rest e = short_step v a x (b ∷ []) rest (a ∷ b ∷ []) refl e
decode_step v (a ∷ b ∷ c ∷ s) x rest e = by_code v a b c s ∙ of_code (coded_character v a b c) (sym (next_code v a b c s) ∙ e)
  where
    of_code : (o : Option ℕ) → next_by a (b ∷ c ∷ s) s o ≡ Some (x, rest) → decode_by v a (b ∷ c ∷ s) s o ≡ x ∷ decode v rest
    of_code (Some y) e = short_step v y x s rest (y ∷ decode v s) refl e
    of_code None e = short_step v a x (b ∷ c ∷ s) rest (a ∷ decode v (b ∷ c ∷ s)) refl e

pub decode_none : (v : Version) (s : List ℕ) → next_char v s ≡ None → decode v s ≡ []
unfolding decode
decode_none v [] e = refl
decode_none v (a ∷ []) e = absurd cc
decode_none v (a ∷ b ∷ []) e = absurd cc
decode_none v (a ∷ b ∷ c ∷ s) e = of_code (coded_character v a b c) (sym (next_code v a b c s) ∙ e)
  where
    of_code : (o : Option ℕ) → next_by a (b ∷ c ∷ s) s o ≡ None → decode v (a ∷ b ∷ c ∷ s) ≡ []
    of_code (Some x) e = absurd cc
    of_code None e = absurd cc

-- where no coded triple stands, a text spells itself
pub plain : (v : Version) (s : List ℕ) → has_coded v s ≡ false → decode v s ≡ s
unfolding decode
plain v [] e = refl
plain v (a ∷ []) e = refl
plain v (a ∷ b ∷ []) e = refl
plain v (a ∷ b ∷ c ∷ s) e =
    let n = or_parts (is_some (coded_character v a b c)) (has_coded v (b ∷ c ∷ s)) e in
    by_code v a b c s ∙ ap (decode_by v a (b ∷ c ∷ s) s) (no_value (coded_character v a b c) n.0) ∙ ap (λ (t : List ℕ). a ∷ t) (plain v (b ∷ c ∷ s) n.1)

pub step : (before now : List ℕ) (v : Version) (s : List ℕ) (o : Option (ℕ × List ℕ)) (x : ℕ) (rest total : List ℕ) → o ≡ next_char v s → o ≡ Some (x, rest) → now ≡ before ++ x ∷ [] → before ++ decode v s ≡ total → now ++ decode v rest ≡ total
step before now v s o x rest total e some is so_far =
    let one = decode_step v s x rest (sym e ∙ some) in
    rw is (append_assoc before (x ∷ []) (decode v rest) ∙ ap (λ (t : List ℕ). before ++ t) (sym one) ∙ so_far)

pub done : (before : List ℕ) (v : Version) (s : List ℕ) (o : Option (ℕ × List ℕ)) (total : List ℕ) → o ≡ next_char v s → o ≡ None → before ++ decode v s ≡ total → before ≡ total
done before v s o total e none so_far =
    let one = decode_none v s (sym e ∙ none) in
    sym (append-nil before) ∙ ap (λ (t : List ℕ). before ++ t) (sym one) ∙ so_far

pub good_is_text : (bs : List ℕ) → is_good bs ≡ true → is_utf8 bs ≡ true
good_is_text bs e = (and_parts (is_utf8 bs) (is_none (path_fault bs)) e).0

-- ---- entries by path

abbrev pub compare : CowStr Global → CowStr Global → Ordering
compare x y = slice_cmp nat_cmp (cow_str_bytes x) (cow_str_bytes y)

-- a new path goes to its place
pub inserted : (es : List (CowStr Global × Listing)) (k : CowStr Global) (v : Listing) → is_path_listed (cow_str_bytes k) (map entry_in es) ≡ false → map entry_in (insert_entry compare es k v) ≡ insert_entry (slice_cmp nat_cmp) (map entry_in es) (cow_str_bytes k) (entry_in (k, v)).1
inserted [] k v new = refl
inserted (e ∷ es) k v new = by_Ordering (compare k e.0)
    (λ is. rw is refl)
    (λ is. let wrong = rw is at new in absurd cc)
    (λ is. rw is (ap (λ (rest : Entries). entry_in e ∷ rest) (inserted es k v (rw is at new))))

pub looked_up : (es : List (CowStr Global × Listing)) (k : CowStr Global) → is_some (lookup (is_at (compare k)) es) ≡ is_path_listed (cow_str_bytes k) (map entry_in es)
looked_up [] k = refl
looked_up (e ∷ es) k = elim (cases_Bool (is_at (compare k) e.0)) [ inl is ↦ rw is refl | inr is ↦ rw is (looked_up es k) ]

pub all_read : (v : Version) (a : Algorithm) (number : ℕ) (before : Entries) (t : List ℕ) (total : Result Entries LineFault) → length t ≡ 0 → entries_of v a number before (lines t) ≡ total → total ≡ Ok before
unfolding entries_of
all_read v a number before t total e so_far = sym so_far ∙ ap (entries_of v a number before) (no_lines t e)

pub next_line : (v : Version) (a : Algorithm) (number : ℕ) (before now : Entries) (t line rest : List ℕ) (total : Result Entries LineFault)
    → lines t ≡ line ∷ lines rest → add_line_of v a number before line ≡ Ok now → entries_of v a number before (lines t) ≡ total → entries_of v a (number + 1) now (lines rest) ≡ total
unfolding entries_of
next_line v a number before now t line rest total is e so_far =
    let one : entries_of v a number before (lines t) ≡ entries_of v a (number + 1) now (lines rest) = rw (is, e) refl in
    sym one ∙ so_far

pub line_fails : (v : Version) (a : Algorithm) (number : ℕ) (before : Entries) (t line rest : List ℕ) (fault : LineFault) (total : Result Entries LineFault)
    → lines t ≡ line ∷ lines rest → FailsAs (named_line_fault fault) (add_line_of v a number before line) → entries_of v a number before (lines t) ≡ total → FailsAs (named_line_fault fault) total
unfolding entries_of
line_fails v a number before t line rest fault total is e so_far = fails_on (named_line_fault fault) _ total one e
  where
    one : (f : LineFault) → add_line_of v a number before line ≡ Err f → total ≡ Err f
    one f e = let two : entries_of v a number before (lines t) ≡ Err f = rw (is, e) refl in sym so_far ∙ two

pub added : (v : Version) (a : Algorithm) (number : ℕ) (es : List (CowStr Global × Listing)) (line : List ℕ) (path : CowStr Global) (listing : Listing) (old : Option Listing) (now : List (CowStr Global × Listing))
    → list_all is_blank line ≡ false → entry_of v a number line ≡ Ok (entry_in (path, listing)) → old ≡ lookup (is_at (compare path)) es → is_some old ≡ false → now ≡ insert_entry compare es path listing
    → add_line_of v a number (map entry_in es) line ≡ Ok (map entry_in now)
unfolding add_line_of
added v a number es line path listing old now full entry old-is new now-is =
    let fresh : is_path_listed (cow_str_bytes path) (map entry_in es) ≡ false = sym (looked_up es path) ∙ ap is_some (sym old-is) ∙ new in
    rw (full, entry, fresh, now-is) (ap (λ (x : Entries). Ok x) (sym (inserted es path listing fresh)))

pub twice : (v : Version) (a : Algorithm) (number : ℕ) (es : List (CowStr Global × Listing)) (line : List ℕ) (path : CowStr Global) (listing : Listing) (old : Option Listing)
    → list_all is_blank line ≡ false → entry_of v a number line ≡ Ok (entry_in (path, listing)) → old ≡ lookup (is_at (compare path)) es → is_some old ≡ true
    → add_line_of v a number (map entry_in es) line ≡ Err (ListedTwice number)
unfolding add_line_of
twice v a number es line path listing old full entry old-is known =
    let again : is_path_listed (cow_str_bytes path) (map entry_in es) ≡ true = sym (looked_up es path) ∙ ap is_some (sym old-is) ∙ known in
    rw (full, entry, again) refl

-- ---- the relation of spelled paths and the function are one

pub spells_decoded : (v : Version) (s : List ℕ) → Spells v s (decode v s)
unfolding decode
spells_decoded v [] = nothing
spells_decoded v (a ∷ []) = itself refl nothing
spells_decoded v (a ∷ b ∷ []) = itself refl (itself refl nothing)
spells_decoded v (a ∷ b ∷ c ∷ s) = of_code (coded_character v a b c) refl (spells_decoded v s) (spells_decoded v (b ∷ c ∷ s))
  where
    of_code : (o : Option ℕ) → coded_character v a b c ≡ o → Spells v s (decode v s) → Spells v (b ∷ c ∷ s) (decode v (b ∷ c ∷ s)) → Spells v (a ∷ b ∷ c ∷ s) (decode v (a ∷ b ∷ c ∷ s))
    of_code (Some x) e far near = subst (λ (p : List ℕ). Spells v (a ∷ b ∷ c ∷ s) p) (sym (by_code v a b c s ∙ ap (decode_by v a (b ∷ c ∷ s) s) e)) (triple e far)
    of_code None e far near = subst (λ (p : List ℕ). Spells v (a ∷ b ∷ c ∷ s) p) (sym (by_code v a b c s ∙ ap (decode_by v a (b ∷ c ∷ s) s) e)) (itself e near)

pub spelled_is_decoded : (v : Version) (s p : List ℕ) → Spells v s p → decode v s ≡ p
unfolding decode
spelled_is_decoded v s p nothing = refl
spelled_is_decoded v s p (triple {a = a} {b = b} {c = c} {x = x} {s = t} {p = q} e rest) = by_code v a b c t ∙ ap (decode_by v a (b ∷ c ∷ t) t) e ∙ ap (λ (r : List ℕ). x ∷ r) (spelled_is_decoded v t q rest)
spelled_is_decoded v s p (itself {a = a} {s = t} {p = q} e rest) = of_rest t e (spelled_is_decoded v t q rest)
  where
    of_rest : (t : List ℕ) → leading_escape v (a ∷ t) ≡ None → decode v t ≡ q → decode v (a ∷ t) ≡ a ∷ q
    of_rest [] e again = ap (λ (r : List ℕ). a ∷ r) again
    of_rest (b ∷ []) e again = ap (λ (r : List ℕ). a ∷ r) again
    of_rest (b ∷ c ∷ t) e again = by_code v a b c t ∙ ap (decode_by v a (b ∷ c ∷ t) t) e ∙ ap (λ (r : List ℕ). a ∷ r) again
