-- The faults of reading are those of the table.
use Rattle.bag_text.proofs.FirstLemmas.{err_through, never_both, ◌≡◌, ℕ, inl, inr, eqb, List, [], ◌∷◌, ◌++◌, refl, sym, ap, subst, ◌∙◌, arith, append_assoc, lit<, lit≤, decimal, append-nil, Flaw, Short, Bad, ◌>>=◌, EndOrHead, End, Entry, literal_at, number_at, header_at, end_or_head_at, Head, header, ending, max_content, max_path, BeginsWith, IsProperBeginning, HasSizes, IsEndOrHeader, Result, Ok, Err, number_ok, number_again, number_short, number_bad, HeadFits, file_word, after_word, steps, spelled, literal_ok, literal_again, literal_ends, literal_bad}
use Rattle.bag_text.proofs.FormLemmas.{place_header}
use Rattle.bag_text.proofs.CaseLemmas.{by_Bool}

-- ---- headers that end too soon, and bad ones

pub header_short : (t : List ℕ) → header_at t ≡ Err Short → (p : ℕ) × (c : ℕ) × (more : List ℕ) × HeadFits p c × (t ++ more ≡ header p c)
header_short t e = by_word (literal_at file_word t) refl (sym (steps t) ∙ e)
  where
    least : HeadFits 1 0
    least = record { path = record { low = lit≤ tt; high = lit≤ tt }; content = record { low = lit≤ tt; high = lit≤ tt } }

    by_word : (r : Result (List ℕ) Flaw) → literal_at file_word t ≡ r → (r >>= λ after. after_word (number_at 32 1 max_path after)) ≡ Err Short → (p : ℕ) × (c : ℕ) × (more : List ℕ) × HeadFits p c × (t ++ more ≡ header p c)
    by_word (Err Bad) is g = absurd cc
    by_word (Err Short) is g =
        let w = literal_ends file_word t is in
        let tail : List ℕ = decimal 1 ++ 32 ∷ (decimal 0 ++ 10 ∷ []) in
        (1, 0, w.0 ++ tail, least, sym (append_assoc t w.0 tail) ∙ ap (λ (x : List ℕ). x ++ tail) w.1 ∙ sym (spelled 1 0 []) ∙ append-nil (header 1 0))
    by_word (Ok after) is g = by_path (number_at 32 1 max_path after) refl g
      where
        by_path : (r : Result (ℕ × List ℕ) Flaw) → number_at 32 1 max_path after ≡ r → after_word r ≡ Err Short → (p : ℕ) × (c : ℕ) × (more : List ℕ) × HeadFits p c × (t ++ more ≡ header p c)
        by_path (Err Bad) is2 g = absurd cc
        by_path (Err Short) is2 g =
            let word = literal_ok file_word t after is in
            let n = number_short 32 1 max_path (lit< tt) (lit≤ tt) (lit≤ tt) after is2 in
            let tail : List ℕ = 32 ∷ (decimal 0 ++ 10 ∷ []) in (
              n.0,
              0,
              n.1 ++ tail,
              record { path = n.3; content = record { low = lit≤ tt; high = lit≤ tt } },
              ap (λ (x : List ℕ). x ++ (n.1 ++ tail)) word ∙ append_assoc file_word after (n.1 ++ tail) ∙ ap (λ (x : List ℕ). file_word ++ x) (sym (append_assoc after n.1 tail) ∙ ap (λ (x : List ℕ). x ++ tail) n.2) ∙ sym (spelled n.0 0 []) ∙ append-nil (header n.0 0),
            )
        by_path (Ok p) is2 g =
            let word = literal_ok file_word t after is in
            let path = number_ok 32 1 max_path (lit< tt) (lit≤ tt) after p.0 p.1 is2 in
            let n = number_short 10 0 max_content (lit< tt) (lit≤ tt) (lit≤ tt) p.1 (err_through {B = Head} (number_at 10 0 max_content p.1) (λ c. record { path_len = p.0; content_len = c.0; rest = c.1 }) Short g) in
            let tail : List ℕ = 10 ∷ [] in
            let front : List ℕ = decimal p.0 ++ 32 ∷ p.1 in
            let inner : front ++ (n.1 ++ tail) ≡ decimal p.0 ++ 32 ∷ (decimal n.0 ++ 10 ∷ []) = append_assoc (decimal p.0) (32 ∷ p.1) (n.1 ++ tail) ∙ ap (λ (x : List ℕ). decimal p.0 ++ 32 ∷ x) (sym (append_assoc p.1 n.1 tail) ∙ ap (λ (x : List ℕ). x ++ tail) n.2) in (
              p.0,
              n.0,
              n.1 ++ tail,
              record { path = path.1; content = n.3 },
              ap (λ (x : List ℕ). x ++ (n.1 ++ tail)) (word ∙ ap (λ (x : List ℕ). file_word ++ x) path.0) ∙ append_assoc file_word front (n.1 ++ tail) ∙ ap (λ (x : List ℕ). file_word ++ x) inner ∙ sym (spelled p.0 n.0 []) ∙ append-nil (header p.0 n.0),
            )

pub header_bad : (t more : List ℕ) → header_at t ≡ Err Bad → header_at (t ++ more) ≡ Err Bad
header_bad t more e = by_word (literal_at file_word t) refl (sym (steps t) ∙ e)
  where
    by_word : (r : Result (List ℕ) Flaw) → literal_at file_word t ≡ r → (r >>= λ after. after_word (number_at 32 1 max_path after)) ≡ Err Bad → header_at (t ++ more) ≡ Err Bad
    by_word (Err Short) is g = absurd cc
    by_word (Err Bad) is g = steps (t ++ more) ∙ rw (literal_bad file_word t more is) refl
    by_word (Ok after) is g = by_path (number_at 32 1 max_path after) refl g
      where
        word : t ++ more ≡ file_word ++ (after ++ more)
        word = ap (λ (x : List ℕ). x ++ more) (literal_ok file_word t after is) ∙ append_assoc file_word after more

        by_path : (r : Result (ℕ × List ℕ) Flaw) → number_at 32 1 max_path after ≡ r → after_word r ≡ Err Bad → header_at (t ++ more) ≡ Err Bad
        by_path (Err Short) is2 g = absurd cc
        by_path (Err Bad) is2 g = ap header_at word ∙ steps (file_word ++ (after ++ more)) ∙ rw (literal_again file_word (after ++ more)) (rw (number_bad 32 1 max_path after more is2) refl)
        by_path (Ok p) is2 g =
            let path = number_ok 32 1 max_path (lit< tt) (lit≤ tt) after p.0 p.1 is2 in
            let high = path.1.high in
            let two : after ++ more ≡ decimal p.0 ++ 32 ∷ (p.1 ++ more) = ap (λ (x : List ℕ). x ++ more) path.0 ∙ append_assoc (decimal p.0) (32 ∷ p.1) more in
            let is3 = err_through {B = Head} (number_at 10 0 max_content p.1) (λ c. record { path_len = p.0; content_len = c.0; rest = c.1 }) Bad g in
            ap header_at (word ∙ ap (λ (x : List ℕ). file_word ++ x) two) ∙ steps (file_word ++ (decimal p.0 ++ 32 ∷ (p.1 ++ more)))
            ∙ rw (literal_again file_word (decimal p.0 ++ 32 ∷ (p.1 ++ more))) (rw (number_again 32 1 max_path (lit< tt) (lit≤ tt) p.0 (omega arith) path.1.low path.1.high (p.1 ++ more)) (rw (number_bad 10 0 max_content p.1 more is3) refl))

-- ---- what may stand at an entry's place

pub sized : (p c : ℕ) → HeadFits p c → HasSizes p c
sized p c fits = record { some_path = fits.path.low; short_path = fits.path.high; short_content = fits.content.high }

pub fit : (p c : ℕ) → HasSizes p c → HeadFits p c
fit p c sizes = record { path = record { low = sizes.some_path; high = sizes.short_path }; content = record { low = omega arith; high = sizes.short_content } }

unplaced : (t : List ℕ) (p : EndOrHead) → end_or_head_at t ≡ Ok p → (f : Flaw) → end_or_head_at t ≡ Err f → ⊥
unplaced t p e f g = never_both p f (end_or_head_at t) e g

place_bad : (t more : List ℕ) → end_or_head_at t ≡ Err Bad → end_or_head_at (t ++ more) ≡ Err Bad
unfolding end_or_head_at
place_bad [] more e = absurd cc
place_bad (b ∷ t) more e = by_Bool (eqb b 69)
    (λ is. rw is (rw (literal_bad ending (b ∷ t) more (err_through (literal_at ending (b ∷ t)) (λ rest. End rest) Bad (rw is at e))) refl))
    (λ is. rw is (rw (header_bad (b ∷ t) more (err_through (header_at (b ∷ t)) (λ head. Entry head) Bad (rw is at e))) refl))

pub place_end : (rest : List ℕ) → end_or_head_at (ending ++ rest) ≡ Ok (End rest)
unfolding end_or_head_at literal_at
place_end rest = refl

nothing_stands : (t : List ℕ) (f : Flaw) → end_or_head_at t ≡ Err f → BeginsWith IsEndOrHeader t → ⊥
nothing_stands t f e (front, rest, inl end, is) = unplaced t (End rest) (ap end_or_head_at (is ∙ ap (λ (x : List ℕ). x ++ rest) end) ∙ place_end rest) f e
nothing_stands t f e (front, rest, inr h, is) =
    unplaced t (Entry (record { path_len = h.0; content_len = h.1; rest = rest })) (ap end_or_head_at (is ∙ ap (λ (x : List ℕ). x ++ rest) h.3) ∙ place_header h.0 h.1 rest (fit h.0 h.1 h.2)) f e

-- a fault of what stands there is the one of the table
pub bad_place : (t : List ℕ) → end_or_head_at t ≡ Err Bad → (BeginsWith IsEndOrHeader t → ⊥) × (IsProperBeginning IsEndOrHeader t → ⊥)
bad_place t e = (nothing_stands t Bad e, λ proper. nothing_stands (t ++ proper.0) Bad (place_bad t proper.0 e) (t ++ proper.0, [], proper.2, sym (append-nil (t ++ proper.0))))

completes : (t : List ℕ) → end_or_head_at t ≡ Err Short → (more : List ℕ) × IsEndOrHeader (t ++ more)
unfolding end_or_head_at
completes [] e = (ending, inl refl)
completes (b ∷ t) e = by_Bool (eqb b 69)
    (λ is. let w = literal_ends ending (b ∷ t) (err_through (literal_at ending (b ∷ t)) (λ rest. End rest) Short (rw is at e)) in (w.0, inl w.1))
    (λ is. let h = header_short (b ∷ t) (err_through (header_at (b ∷ t)) (λ head. Entry head) Short (rw is at e)) in (h.2, inr (h.0, h.1, sized h.0 h.1 h.3, h.4)))

pub short_place : (t : List ℕ) → end_or_head_at t ≡ Err Short → IsProperBeginning IsEndOrHeader t
short_place t e =
    let w = completes t e in
    (w.0, (λ none. nothing_stands t Short e (t, [], subst (λ (x : List ℕ). IsEndOrHeader x) (ap (λ (x : List ℕ). t ++ x) none ∙ append-nil t) w.1, sym (append-nil t))), w.1)
