-- Field values: what may be in one, and that the blank before it is dropped when it is read.
use Rattle.desk_answers.proofs.Common.{◌≡◌, ℕ, ◌+◌, ◌^◌, ◌<◌, ◌≤◌, ◌%◌, false, true, IsTrue, List, [], ◌∷◌, reverse, decimal, refl, sym, subst, arith, All, list_all, decimal_by_steps, reverse-append, All-nil, All-cons, All-head, All-tail, All-push, All-weaker, AllPass-from_list_all, AllPass, is_value_byte, is_ows, skip_ows, trim_ows}
use Rattle.std.specs.Char.{is_ascii_digit}
use Rattle.std.proofs.lemmas.Bool.Decides.{nat_tests}
use Rattle.httparse.proofs.TrimLemmas.{trim_ows_space}

abbrev IsDigit : ℕ → Type 0
IsDigit b = (48 ≤ b) × (b ≤ 57)

digit_byte : (d : ℕ) → d < 10 → IsDigit (48 + d)
digit_byte d low = (omega arith, omega arith)

decimal_digits : (n : ℕ) → n < 2 ^ 64 → All IsDigit (decimal n)
decimal_digits n small =
    decimal_by_steps (λ m ds. All IsDigit ds)
    (λ m low. All-cons IsDigit (48 + m) [] (digit_byte m low) (All-nil IsDigit))
    (λ m ds least before. All-push IsDigit ds (48 + m % 10) before (digit_byte (m % 10) (omega arith)))
    n small

digit_is_value : (b : ℕ) → IsDigit b → IsTrue (is_value_byte b)
digit_is_value b (low, high) = grind (arith, nat_tests)

digit_is_digit : (b : ℕ) → IsDigit b → IsTrue (is_ascii_digit b)
digit_is_digit b (low, high) = grind (arith, nat_tests)

digit_no_blank : (b : ℕ) → IsDigit b → is_ows b ≡ false
digit_no_blank b (low, high) = grind (arith, nat_tests)

All-reverse : {X : Type 0} (P : X → Type 0) (xs : List X) → All P xs → All P (reverse xs)
All-reverse P [] pass = pass
All-reverse P (x ∷ xs) pass =
    subst (All P) (sym (reverse-append (x ∷ []) xs)) (All-push P (reverse xs) x (All-reverse P xs (All-tail P x xs pass)) (All-head P x xs pass))

skip_ows-digits : (ds : List ℕ) → All IsDigit ds → skip_ows ds ≡ ds
skip_ows-digits [] pass = refl
skip_ows-digits (d ∷ ds) pass = rw (digit_no_blank d (All-head IsDigit d ds pass))

-- ---- values

-- the text may be in a field after a blank, and is read there as it is
pub record IsValue (text : List ℕ) : Type 0 where
  pub bytes : AllPass is_value_byte (32 ∷ text)
  pub read : trim_ows (32 ∷ text) ≡ text

-- of a text that is known, by computing
pub is_value : (text : List ℕ) → list_all is_value_byte (32 ∷ text) ≡ true → skip_ows text ≡ text → skip_ows (reverse text) ≡ reverse text → IsValue text
is_value text bytes front back = record { bytes = AllPass-from_list_all is_value_byte (32 ∷ text) bytes; read = trim_ows_space text front back }

pub decimal_is_value : (n : ℕ) → n < 2 ^ 64 → IsValue (decimal n)
decimal_is_value n small =
    let digits = decimal_digits n small in
    record {
      bytes = All-cons (λ b. IsTrue (is_value_byte b)) 32 (decimal n) (refl {a = true}) (All-weaker IsDigit (λ b. IsTrue (is_value_byte b)) digit_is_value (decimal n) digits);
      read = trim_ows_space (decimal n) (skip_ows-digits (decimal n) digits) (skip_ows-digits (reverse (decimal n)) (All-reverse IsDigit (decimal n) digits));
    }

pub decimal_has_digits : (n : ℕ) → n < 2 ^ 64 → AllPass is_ascii_digit (decimal n)
decimal_has_digits n small = All-weaker IsDigit (λ b. IsTrue (is_ascii_digit b)) digit_is_digit (decimal n) (decimal_digits n small)
