-- The first line of a text.
use Rattle.bag_text.proofs.Common.{nat_tests, cases_Bool, cond_both, ◌≡◌, one-add, ℕ, subst, ◌<◌, ◌≤◌, Bool, true, false, cond, eqb, ltb, ◌&&◌, not, List, [], ◌∷◌, ◌++◌, length, drop, refl, sym, ap, ◌∙◌, arith, ◌≢◌, ◌⊎◌, inl, inr, append_assoc, list_any, onto_first, position_or_len, position, ltb-false, eqb-true, or_parts, prefix_len-le-length, length-drop, is_end, lines, LF, CR, CRLF, end_bytes, EndsBefore, AreLines, begins_with, unwrap_or}
use Rattle.bag_text.specs.Lines.{End}
use Rattle.bag_text.specs.LineReading.{first_line, after_first_line, after_end_of}
use Rattle.bag_text.proofs.CaseLemmas.{by_Bool}

pub fits : (t : List ℕ) → position_or_len is_end t ≤ length t
fits t = prefix_len-le-length (λ b. not (is_end b)) t

after_end_shorter : (t : List ℕ) → 0 < length t → length (after_end_of t) < length t
after_end_shorter [] h = absurd (omega arith)
after_end_shorter (b ∷ t) h =
    let e = cond_both (eqb b 13 && begins_with 10 t) (drop 1 t) t (λ r. length r ≤ length t) (λ _. omega (arith, length-drop 1 t)) (λ _. omega arith) in
    omega arith

lines_nil : lines [] ≡ []
unfolding lines
lines_nil = refl

-- the step, at each answer of the tests
unfolded : (b : ℕ) (t : List ℕ) → lines (b ∷ t) ≡ cond (eqb b 13 && begins_with 10 t) (lines t) (cond (is_end b) ([] ∷ lines t) (onto_first b (lines t)))
unfolding lines
unfolded b t = refl

lf : (c : ℕ) (t : List ℕ) → eqb c 10 ≡ true → lines (c ∷ t) ≡ [] ∷ lines t
unfolding lines
lf c t h = let e : c ≡ 10 = eqb-true c 10 h in rw e refl

at_end : (b : ℕ) (t : List ℕ) → is_end b ≡ true → lines (b ∷ t) ≡ [] ∷ lines (after_end_of (b ∷ t))
at_end b t e = unfolded b t ∙ rw e (crlf (eqb b 13) t)
  where
    crlf : (x : Bool) (t : List ℕ) → cond (x && begins_with 10 t) (lines t) ([] ∷ lines t) ≡ [] ∷ lines (cond (x && begins_with 10 t) (drop 1 t) t)
    crlf false t = refl
    crlf true [] = refl
    crlf true (c ∷ t) = elim (cases_Bool (eqb c 10)) [ inl h ↦ rw h (lf c t h) | inr h ↦ rw h refl ]

in_line : (b : ℕ) (t : List ℕ) → is_end b ≡ false → lines (b ∷ t) ≡ onto_first b (lines t)
in_line b t e = unfolded b t ∙ rw (e, (or_parts (eqb b 10) (eqb b 13) e).1) refl

pub lines_step : (t : List ℕ) → 0 < length t → lines t ≡ first_line t ∷ lines (after_first_line t)
lines_step [] h = absurd (omega arith)
lines_step (b ∷ []) h = by_Bool (is_end b) (λ e. rw e (at_end b [] e)) (λ e. rw e (in_line b [] e ∙ rw lines_nil refl))
lines_step (b ∷ c ∷ t) h = by_Bool (is_end b)
    (λ e. rw e (at_end b (c ∷ t) e))
    (λ e. rw (e, one-add (position_or_len is_end (c ∷ t))) (in_line b (c ∷ t) e ∙ ap (onto_first b) (lines_step (c ∷ t) (omega arith))))

pub shorter : (t : List ℕ) → 0 < length t → length (after_first_line t) < length t
shorter t h = by_rest (drop (position_or_len is_end t) t) refl
  where
    by_rest : (r : List ℕ) → drop (position_or_len is_end t) t ≡ r → length (after_end_of r) < length t
    by_rest [] e = h
    by_rest (b ∷ r) e =
        let one = after_end_shorter (b ∷ r) (omega arith) in
        let two : length (b ∷ r) ≤ length t = omega (arith, length-drop (position_or_len is_end t) t, ap length e) in
        omega arith

pub found_or_len : (p : ℕ → Bool) (t : List ℕ) → unwrap_or (position p t) (length t) ≡ position_or_len p t
found_or_len p t = by_Bool (ltb (position_or_len p t) (length t))
    (λ e. rw e refl)
    (λ e. let all : length t ≤ position_or_len p t = ltb-false _ _ e in rw e (omega (arith, prefix_len-le-length (λ b. not (p b)) t)))

pub no_lines : (t : List ℕ) → length t ≡ 0 → lines t ≡ []
no_lines [] e = lines_nil
no_lines (b ∷ t) e = absurd (omega arith)

-- ---- the lines of a text are the one list of lines that gives it

-- no end stands in l, and what follows it begins with an end
lines_at : (l t : List ℕ) (more : List (List ℕ)) → list_any is_end l ≡ false → lines t ≡ [] ∷ more → lines (l ++ t) ≡ l ∷ more
lines_at [] t more e h = h
lines_at (b ∷ l) t more e h =
    let p = or_parts (is_end b) (list_any is_end l) e in
    in_line b (l ++ t) p.0 ∙ ap (onto_first b) (lines_at l t more p.1 h)

lines_last : (b : ℕ) (l : List ℕ) → list_any is_end (b ∷ l) ≡ false → lines (b ∷ l) ≡ (b ∷ l) ∷ []
lines_last b [] e = in_line b [] (or_parts (is_end b) false e).0 ∙ ap (onto_first b) lines_nil
lines_last b (a ∷ l) e =
    let p = or_parts (is_end b) (list_any is_end (a ∷ l)) e in
    in_line b (a ∷ l) p.0 ∙ ap (onto_first b) (lines_last a l p.1)

lines_end : (e : End) (rest : List ℕ) → EndsBefore e rest → lines (end_bytes e ++ rest) ≡ [] ∷ lines rest
unfolding lines
lines_end LF rest h = refl
lines_end CR rest h = rw h refl
lines_end CRLF rest h = refl

pub one_list : (t : List ℕ) (ls : List (List ℕ)) → AreLines t ls → lines t ≡ ls
one_list t [] is = no_lines t (ap length is)
one_list t (l ∷ ls) is = of_end is.1 (λ rest more. one_list rest ls more)
  where
    last : (l t : List ℕ) → list_any is_end l ≡ false → (l ≡ [] → ⊥) → t ≡ l → lines t ≡ l ∷ []
    last [] t e some same = absurd (some refl)
    last (b ∷ l) t e some same = ap lines same ∙ lines_last b l e

    of_end : ((t ≡ l) × (l ≢ []) × (ls ≡ [])) ⊎ ((e : End) × (rest : List ℕ) × (t ≡ l ++ end_bytes e ++ rest) × EndsBefore e rest × AreLines rest ls) → ((rest : List ℕ) → AreLines rest ls → lines rest ≡ ls) → lines t ≡ l ∷ ls
    of_end (inl h) again = last l t is.0 h.1 h.0 ∙ ap (λ (x : List (List ℕ)). l ∷ x) (sym h.2)
    of_end (inr (e, rest, whole, before, more)) again =
        ap lines (whole ∙ append_assoc l (end_bytes e) rest) ∙ lines_at l (end_bytes e ++ rest) (lines rest) is.0 (lines_end e rest before) ∙ ap (λ (x : List (List ℕ)). l ∷ x) (again rest more)

-- ---- a text's lines are such a list

-- one byte more, which ends no line, in front of the first line
onto : (b : ℕ) (t : List ℕ) (ls : List (List ℕ)) → is_end b ≡ false → AreLines t ls → AreLines (b ∷ t) (onto_first b ls)
onto b t [] e is = (rw e refl, inl (ap (λ (x : List ℕ). b ∷ x) is, (λ none. absurd cc), refl))
onto b t (l ∷ ls) e (no_end, rest) = (rw e no_end, of_end rest)
  where
    of_end : ((t ≡ l) × (l ≢ []) × (ls ≡ [])) ⊎ ((e : End) × (rest : List ℕ) × (t ≡ l ++ end_bytes e ++ rest) × EndsBefore e rest × AreLines rest ls) → ((b ∷ t ≡ b ∷ l) × (b ∷ l ≢ []) × (ls ≡ [])) ⊎ ((e : End) × (rest : List ℕ) × (b ∷ t ≡ b ∷ l ++ end_bytes e ++ rest) × EndsBefore e rest × AreLines rest ls)
    of_end (inl h) = inl (ap (λ (x : List ℕ). b ∷ x) h.0, (λ none. absurd cc), h.2)
    of_end (inr (e, rest, whole, before, more)) = inr (e, rest, ap (λ (x : List ℕ). b ∷ x) whole, before, more)

-- an end, and the lines of what stands after it
behind_end : (b : ℕ) (t : List ℕ) (ls : List (List ℕ)) → is_end b ≡ true → AreLines (after_end_of (b ∷ t)) ls → AreLines (b ∷ t) ([] ∷ ls)
behind_end b t ls e is = (
  refl,
  inr (by_Bool (eqb b 13)
      (λ h. by_lf (eqb-true b 13 h) t (begins_with 10 t) refl (rw h at is))
      (λ h. let lf : b ≡ 10 = grind (arith, nat_tests) in (LF, t, rw lf refl, tt, rw h at is))),
)
  where
    by_lf : b ≡ 13 → (t : List ℕ) (x : Bool) → begins_with 10 t ≡ x → AreLines (cond x (drop 1 t) t) ls → (e : End) × (rest : List ℕ) × (b ∷ t ≡ end_bytes e ++ rest) × EndsBefore e rest × AreLines rest ls
    by_lf cr [] true h is = absurd cc
    by_lf cr (c ∷ t) true h is = let lf : c ≡ 10 = eqb-true c 10 h in (CRLF, t, rw (cr, lf) refl, tt, is)
    by_lf cr t false h is = (CR, t, rw cr refl, h, is)

-- one byte more
one_more : (b : ℕ) (t : List ℕ) → AreLines t (lines t) → AreLines (drop 1 t) (lines (drop 1 t)) → AreLines (b ∷ t) (lines (b ∷ t))
one_more b t now then = elim (cases_Bool (is_end b)) [
  | inl e ↦
      let behind = cond_both (eqb b 13 && begins_with 10 t) (drop 1 t) t (λ r. AreLines r (lines r)) (λ _. then) (λ _. now) in
      subst (AreLines (b ∷ t)) (sym (at_end b t e)) (behind_end b t (lines (after_end_of (b ∷ t))) e behind)
  | inr e ↦ subst (AreLines (b ∷ t)) (sym (in_line b t e)) (onto b t (lines t) e now)
]

-- the same of a text and of all but its first byte
both_are : (t : List ℕ) → AreLines t (lines t) × AreLines (drop 1 t) (lines (drop 1 t))
both_are [] = (subst (AreLines []) (sym lines_nil) refl, subst (AreLines []) (sym lines_nil) refl)
both_are (b ∷ t) = (one_more b t (both_are t).0 (both_are t).1, (both_are t).0)

-- The lines of a text are a list of lines of it.
pub are_lines : (t : List ℕ) → AreLines t (lines t)
are_lines t = (both_are t).0
