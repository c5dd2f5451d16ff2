-- Blanks at the end.
use Rattle.bag_text.proofs.Common.{false_from_ne_true, and_right, ◌≡◌, ℕ, ◌+◌, ◌-◌, ◌<◌, true, false, cond, eqb, List, [], ◌∷◌, ◌++◌, length, get_or, take, refl, sym, ap, ◌∙◌, arith, take_all, take_more, length_push, result_ok, Option, Some, None, option_copied, Result, Ok, Err, MatchResult, is_ok, IsUtf8, is_utf8, IsValidUpTo, valid_up_to, Bor, nat_tests, IsUtf8-from_is_utf8, is_utf8-from_IsUtf8, is_blank, drop_last_blanks}
use Rattle.std.specs.declared.str.Utf8Error.{Utf8Error}

pub drop_last_blank : (t : List ℕ) (b : ℕ) → is_blank b ≡ true → drop_last_blanks (t ++ b ∷ []) ≡ drop_last_blanks t
drop_last_blank [] b e = rw e refl
drop_last_blank (a ∷ t) b e = rw (drop_last_blank t b e) refl

not_empty : (t : List ℕ) (b : ℕ) → eqb (length (t ++ b ∷ [])) 0 ≡ false
not_empty t b = grind (arith, nat_tests, length_push t b)

pub keep_last : (t : List ℕ) (b : ℕ) → is_blank b ≡ false → drop_last_blanks (t ++ b ∷ []) ≡ t ++ b ∷ []
keep_last [] b e = rw e refl
keep_last (a ∷ t) b e = rw (keep_last t b e, not_empty t b, and_right (is_blank a) false refl) refl

ends_so : (t : List ℕ) → 0 < length t → t ≡ take (length t - 1) t ++ get_or t (length t - 1) 0 ∷ []
ends_so t lt =
    let n : length t - 1 + 1 ≡ length t = omega arith in
    sym (take_all (length t - 1 + 1) t (omega arith)) ∙ take_more t (length t - 1) 0 (omega arith)

pub blank_at_end : (t : List ℕ) → 0 < length t → is_blank (get_or t (length t - 1) 0) ≡ true → drop_last_blanks t ≡ drop_last_blanks (take (length t - 1) t)
blank_at_end t lt e = ap drop_last_blanks (ends_so t lt) ∙ drop_last_blank (take (length t - 1) t) (get_or t (length t - 1) 0) e

pub no_blank_at_end : (t : List ℕ) → 0 < length t → is_blank (get_or t (length t - 1) 0) ≡ false → drop_last_blanks t ≡ t
no_blank_at_end t lt e = ap drop_last_blanks (ends_so t lt) ∙ keep_last (take (length t - 1) t) (get_or t (length t - 1) 0) e ∙ sym (ends_so t lt)

not_text : (bs : List ℕ) → (IsUtf8 bs → ⊥) → is_utf8 bs ≡ false
not_text bs h = false_from_ne_true (is_utf8 bs) (λ e. h (IsUtf8-from_is_utf8 bs e))

pub utf8_answer : (r : Result (Bor (List ℕ)) Utf8Error) (bs : List ℕ) → MatchResult r (λ s. (s.now ≡ bs) × IsUtf8 bs) (λ e. ¬ (IsUtf8 bs) × IsValidUpTo bs (valid_up_to e)) → is_ok r ≡ is_utf8 bs
utf8_answer (Ok s) bs h = sym (is_utf8-from_IsUtf8 bs h.1)
utf8_answer (Err e) bs h = sym (not_text bs h.0)

pub text_answer : (r : Result (Bor (List ℕ)) Utf8Error) (bs : List ℕ) → MatchResult r (λ s. (s.now ≡ bs) × IsUtf8 bs) (λ e. ¬ (IsUtf8 bs) × IsValidUpTo bs (valid_up_to e)) → (o : Option (Bor (List ℕ))) → o ≡ result_ok r → option_copied o ≡ cond (is_utf8 bs) (Some bs) None
text_answer (Ok s) bs h o e = rw (e, is_utf8-from_IsUtf8 bs h.1, h.0) refl
text_answer (Err f) bs h o e = rw (e, not_text bs h.0) refl
