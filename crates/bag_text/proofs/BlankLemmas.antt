-- Blanks round a text.
use Rattle.bag_text.proofs.Common.{inl, inr, cases_Bool, ◌≡◌, ℕ, Bool, true, false, cond, eqb, ◌&&◌, List, [], ◌∷◌, ◌++◌, length, map, refl, sym, ap, ◌∙◌, arith, and_parts, nat_tests, append-nil, is_blank, AreBlanks, skip_blanks, drop_last_blanks, trim_blanks}
use Rattle.bag_text.proofs.CaseLemmas.{by_Bool}

-- blanks in front of a text
pub record HasFront (t rest : List ℕ) : Type 0 where
  pub before : List ℕ
  pub blanks : AreBlanks before
  pub is : t ≡ before ++ rest

-- what is skipped are blanks
pub skipped : (t : List ℕ) → HasFront t (skip_blanks t)
skipped [] = record { before = []; blanks = refl; is = refl }
skipped (b ∷ t) = by_Bool (is_blank b)
    (λ e. let h = skipped t in rw e (record { before = b ∷ h.before; blanks = rw e h.blanks; is = ap (λ (x : List ℕ). b ∷ x) h.is }))
    (λ e. rw e (record { before = []; blanks = refl; is = refl }))

-- blanks at the end of a text
pub record HasBack (t rest : List ℕ) : Type 0 where
  pub after : List ℕ
  pub blanks : AreBlanks after
  pub is : t ≡ rest ++ after

-- what is dropped at the end are blanks
pub dropped : (t : List ℕ) → HasBack t (drop_last_blanks t)
dropped [] = record { after = []; blanks = refl; is = refl }
dropped (b ∷ t) = by_rest (is_blank b) refl (drop_last_blanks t) (dropped t)
  where
    by_rest : (x : Bool) → is_blank b ≡ x → (rest : List ℕ) → HasBack t rest → HasBack (b ∷ t) (cond (x && eqb (length rest) 0) [] (b ∷ rest))
    by_rest false e rest h = record { after = h.after; blanks = h.blanks; is = ap (λ (x : List ℕ). b ∷ x) h.is }
    by_rest true e [] h = record { after = b ∷ h.after; blanks = rw e h.blanks; is = ap (λ (x : List ℕ). b ∷ x) h.is }
    by_rest true e (c ∷ rest) h = let some : eqb (length (c ∷ rest)) 0 ≡ false = grind (arith, nat_tests) in rw some (record { after = h.after; blanks = h.blanks; is = ap (λ (x : List ℕ). b ∷ x) h.is })

-- blanks in front are skipped
pub skip_front : (before t : List ℕ) → AreBlanks before → skip_blanks (before ++ t) ≡ skip_blanks t
skip_front [] t h = refl
skip_front (b ∷ before) t h = let p = and_parts (is_blank b) _ h in rw p.0 (skip_front before t p.1)

-- blanks alone have nothing left
pub all_dropped : (t : List ℕ) → AreBlanks t → drop_last_blanks t ≡ []
all_dropped [] h = refl
all_dropped (b ∷ t) h = let p = and_parts (is_blank b) _ h in rw (p.0, all_dropped t p.1) refl

-- blanks at the end are dropped
pub drop_back : (t after : List ℕ) → AreBlanks after → drop_last_blanks (t ++ after) ≡ drop_last_blanks t
drop_back [] after h = all_dropped after h
drop_back (b ∷ t) after h = rw (drop_back t after h) refl

-- skipping leaves blanks at the end, where something else stands before them
pub skip_back : (t after : List ℕ) → AreBlanks after → drop_last_blanks (skip_blanks (t ++ after)) ≡ drop_last_blanks (skip_blanks t)
skip_back [] after h = ap drop_last_blanks (ap skip_blanks (sym (append-nil after)) ∙ skip_front after [] h)
skip_back (b ∷ t) after h =
    elim (cases_Bool (is_blank b)) [ inl e ↦ rw e (skip_back t after h) | inr e ↦ rw e (drop_back (b ∷ t) after h) ]

-- blanks round a text go
pub trim_round : (before value after : List ℕ) → AreBlanks before → AreBlanks after → trim_blanks (before ++ (value ++ after)) ≡ trim_blanks value
trim_round before value after first last = ap drop_last_blanks (skip_front before (value ++ after) first) ∙ skip_back value after last

-- a text is its blanks round what is left
pub record HasRound (t value : List ℕ) : Type 0 where
  pub before : List ℕ
  pub after : List ℕ
  pub first : AreBlanks before
  pub last : AreBlanks after
  pub is : t ≡ before ++ (value ++ after)

pub trimmed_round : (t : List ℕ) → HasRound t (trim_blanks t)
trimmed_round t =
    let front = skipped t in
    let back = dropped (skip_blanks t) in
    record { before = front.before; after = back.after; first = front.blanks; last = back.blanks; is = front.is ∙ ap (λ (x : List ℕ). front.before ++ x) back.is }

-- a map that keeps blanks commutes with dropping them
pub map_skipped : (f : ℕ → ℕ) → ((b : ℕ) → is_blank (f b) ≡ is_blank b) → (t : List ℕ) → skip_blanks (map f t) ≡ map f (skip_blanks t)
map_skipped f keeps [] = refl
map_skipped f keeps (b ∷ t) =
    rw (keeps b) (elim (cases_Bool (is_blank b)) [ inl e ↦ rw e (map_skipped f keeps t) | inr e ↦ rw e refl ])

pub map_dropped : (f : ℕ → ℕ) → ((b : ℕ) → is_blank (f b) ≡ is_blank b) → (t : List ℕ) → drop_last_blanks (map f t) ≡ map f (drop_last_blanks t)
map_dropped f keeps [] = refl
map_dropped f keeps (b ∷ t) = rw (keeps b, map_dropped f keeps t) (by_rest (is_blank b) (drop_last_blanks t))
  where
    by_rest : (x : Bool) (rest : List ℕ) → cond (x && eqb (length (map f rest)) 0) [] (f b ∷ map f rest) ≡ map f (cond (x && eqb (length rest) 0) [] (b ∷ rest))
    by_rest false rest = refl
    by_rest true [] = refl
    by_rest true (c ∷ rest) =
        let near : eqb (length (f c ∷ map f rest)) 0 ≡ false = grind (arith, nat_tests) in
        let far : eqb (length (c ∷ rest)) 0 ≡ false = grind (arith, nat_tests) in
        rw (near, far) refl
