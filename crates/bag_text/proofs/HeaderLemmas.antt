-- A header that is read is the one that is spelled; one that ends too soon can be completed; what is bad stays so.
use Rattle.bag_text.proofs.Common.{inl, inr, cases_Bool, ◌≡◌, ℕ, true, eqb, List, [], ◌∷◌, ◌++◌, refl, sym, ap, subst, ◌∙◌, arith, append_assoc, lit<, lit≤, decimal, codes, nat_tests, eqb-true, Flaw, Short, Bad, ◌>>=◌, literal_at, number_at, header_at, Head, header, max_content, max_path, Result, Ok, Err}
use Rattle.bag_text.proofs.ResultLemmas.{bind_ok, ok_if, ok_is}
use Rattle.bag_text.proofs.NumberLemmas.{InBounds, number_ok, number_again}

-- ---- bytes that a text must begin with

pub literal_ok : (w t rest : List ℕ) → literal_at w t ≡ Ok rest → t ≡ w ++ rest
unfolding literal_at
literal_ok [] t rest e = cc
literal_ok (a ∷ w) [] rest e = absurd cc
literal_ok (a ∷ w) (b ∷ t) rest e =
    let h = ok_if (eqb b a) (literal_at w t) Bad rest e in
    let same : b ≡ a = eqb-true b a h.0 in rw (same, literal_ok w t rest h.1) refl

pub literal_again : (w rest : List ℕ) → literal_at w (w ++ rest) ≡ Ok rest
unfolding literal_at
literal_again [] rest = refl
literal_again (a ∷ w) rest = let same : eqb a a ≡ true = grind (arith, nat_tests) in rw same (literal_again w rest)

pub literal_ends : (w t : List ℕ) → literal_at w t ≡ Err Short → (more : List ℕ) × (t ++ more ≡ w)
unfolding literal_at
literal_ends [] t e = absurd cc
literal_ends (a ∷ w) [] e = (a ∷ w, refl)
literal_ends (a ∷ w) (b ∷ t) e = elim (cases_Bool (eqb b a)) [
  | inl is ↦ let same : b ≡ a = eqb-true b a is in let r = literal_ends w t (rw is at e) in (r.0, rw (same, r.1) refl)
  | inr isnt ↦ let wrong = rw isnt at e in absurd cc
]

pub literal_bad : (w t more : List ℕ) → literal_at w t ≡ Err Bad → literal_at w (t ++ more) ≡ Err Bad
unfolding literal_at
literal_bad [] t more e = absurd cc
literal_bad (a ∷ w) [] more e = absurd cc
literal_bad (a ∷ w) (b ∷ t) more e =
    elim (cases_Bool (eqb b a)) [ inl is ↦ rw is (literal_bad w t more (rw is at e)) | inr isnt ↦ rw isnt refl ]

-- ---- headers

abbrev pub file_word : List ℕ
file_word = codes "FILE "

abbrev pub after_path : ℕ → Result (ℕ × List ℕ) Flaw → Result Head Flaw
after_path p c = c >>= λ c. Ok (record { path_len = p; content_len = c.0; rest = c.1 })

abbrev pub after_word : Result (ℕ × List ℕ) Flaw → Result Head Flaw
after_word p = p >>= λ p. after_path p.0 (number_at 10 0 max_content p.1)

pub steps : (t : List ℕ) → header_at t ≡ (literal_at file_word t >>= λ after. after_word (number_at 32 1 max_path after))
unfolding header_at
steps t = refl

pub record HeadFits (p c : ℕ) : Type 0 where
  pub path : InBounds 1 max_path p
  pub content : InBounds 0 max_content c

pub spelled : (p c : ℕ) (rest : List ℕ) → header p c ++ rest ≡ file_word ++ (decimal p ++ 32 ∷ (decimal c ++ 10 ∷ rest))
spelled p c rest = simp append_assoc

pub header_again : (p c : ℕ) (rest : List ℕ) → HeadFits p c → header_at (header p c ++ rest) ≡ Ok (record { path_len = p; content_len = c; rest = rest })
header_again p c rest fits =
    let pl = fits.path.low in
    let ph = fits.path.high in
    let ch = fits.content.high in
    ap header_at (spelled p c rest) ∙ steps (file_word ++ (decimal p ++ 32 ∷ (decimal c ++ 10 ∷ rest)))
    ∙ rw (literal_again file_word (decimal p ++ 32 ∷ (decimal c ++ 10 ∷ rest)))
    (rw (number_again 32 1 max_path (lit< tt) (lit≤ tt) p (omega arith) fits.path.low fits.path.high (decimal c ++ 10 ∷ rest))
    (rw (number_again 10 0 max_content (lit< tt) (lit≤ tt) c (omega arith) (omega arith) fits.content.high rest) refl))

pub header_ok : (t : List ℕ) (h : Head) → header_at t ≡ Ok h → (t ≡ header h.path_len h.content_len ++ h.rest) × HeadFits h.path_len h.content_len
header_ok t h e =
    let word = bind_ok (literal_at file_word t) (λ after. after_word (number_at 32 1 max_path after)) h (sym (steps t) ∙ e) in
    let path = bind_ok (number_at 32 1 max_path word.0) (λ p. after_word (Ok p)) h word.2 in
    let content = bind_ok (number_at 10 0 max_content path.0.1) (λ c. after_path path.0.0 (Ok c)) h path.2 in
    let p = path.0 in
    let c = content.0 in
    let path_is = number_ok 32 1 max_path (lit< tt) (lit≤ tt) word.0 p.0 p.1 path.1 in
    let content_is = number_ok 10 0 max_content (lit< tt) (lit≤ tt) p.1 c.0 c.1 content.1 in
    let made : Head = record { path_len = p.0; content_len = c.0; rest = c.1 } in
    let whole : t ≡ header p.0 c.0 ++ c.1 = literal_ok file_word t word.0 word.1 ∙ ap (λ (x : List ℕ). file_word ++ x) (path_is.0 ∙ ap (λ (x : List ℕ). decimal p.0 ++ 32 ∷ x) content_is.0) ∙ sym (spelled p.0 c.0 c.1) in
    subst (λ (h : Head). (t ≡ header h.path_len h.content_len ++ h.rest) × HeadFits h.path_len h.content_len) (ok_is made h content.2) (whole, record { path = path_is.1; content = content_is.1 })
