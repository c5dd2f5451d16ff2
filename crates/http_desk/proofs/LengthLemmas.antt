-- The text of a length is the number's, and each text of a number is read.
use Rattle.http_desk.proofs.Common.{◌≡◌, ℕ, zero, suc, ◌<◌, ◌≤◌, ◌^◌, ◌==◌, ◌&&◌, Bool, true, false, cond, List, [], ◌∷◌, length, get_or, decimal, Some, None, refl, sym, ap, ◌∙◌, arith, rules, nat_le, list_all, is_ascii_digit, digits_value, and_parts, nat_tests, decimal-digits_value, digits_decimal, digits_value-decimal, length-decimal-le, first_decimal, decimal_digit, decimal_nonempty, has_length_form, length_of}
use Rattle.std.proofs.lemmas.Str.Parse.{IsNumeralModel, IsDigitsTest, numerals_by_value}
use Rattle.office_core.proofs.OptionLemmas.{by_Bool, some_if}
use Rattle.std.proofs.lemmas.Option.{cond_some}

tells : IsDigitsTest (λ ds. list_all is_ascii_digit ds ≡ true)
tells = search rules

pub own : IsNumeralModel (λ ds. list_all is_ascii_digit ds ≡ true) (digits_value 10)
own = numerals_by_value (λ ds. list_all is_ascii_digit ds ≡ true) tells

-- ---- lengths

form_of : (ds : List ℕ) → list_all is_ascii_digit ds ≡ true → 0 < length ds → length ds ≤ 8 → (get_or ds 0 0 ≡ 48 → length ds ≡ 1) → has_length_form ds ≡ true
form_of [] all some few alone = absurd (omega arith)
form_of (b ∷ []) all some few alone = (and_parts (is_ascii_digit b) true all).0
form_of (b ∷ c ∷ rest) all some few alone =
    by_Bool (b == 48) (λ e. absurd (let z : b ≡ 48 = grind (arith, nat_tests) in let o = alone z in omega arith))
    (λ e. let k : nat_le (length (b ∷ c ∷ rest)) 8 ≡ true = grind (arith, nat_tests) in rw (e, k, all) refl)

form_says : (ds : List ℕ) → has_length_form ds ≡ true → (list_all is_ascii_digit ds ≡ true) × (0 < length ds) × (length ds ≤ 8) × (get_or ds 0 0 ≡ 48 → length ds ≡ 1)
form_says [] e = cc
form_says (b ∷ []) e = (rw e refl, omega arith, omega arith, λ z. refl)
form_says (b ∷ c ∷ rest) e =
    by_Bool (b == 48) (λ f. absurd (let z = rw f at e in cc))
    (λ f.
    let g = and_parts (nat_le (length (b ∷ c ∷ rest)) 8) (list_all is_ascii_digit (b ∷ c ∷ rest)) (rw f at e) in
    let k : nat_le (length (b ∷ c ∷ rest)) 8 ≡ true = g.0 in
    (g.1, omega arith, grind (arith, nat_tests), λ (z : b ≡ 48). absurd (let o : (b == 48) ≡ true = grind (arith, nat_tests) in let p : true ≡ false = sym o ∙ f in cc)))

lone_zero : (n : ℕ) → n < 2 ^ 64 → get_or (decimal n) 0 0 ≡ 48 → length (decimal n) ≡ 1
lone_zero zero h e = ap length (decimal_digit 0 (omega arith))
lone_zero (suc n) h e = absurd (let f = first_decimal (suc n) (omega arith) h in omega arith)

pub length_of-decimal : (n : ℕ) → n ≤ 16800000 → length_of (decimal n) ≡ Some n
length_of-decimal n few =
    let big : n < 2 ^ 64 = omega arith in
    let form : has_length_form (decimal n) ≡ true = form_of (decimal n) (digits_decimal own n big) (decimal_nonempty n big) (length-decimal-le 8 n (omega arith) (omega arith) big) (lone_zero n big) in
    let v : digits_value 10 (decimal n) ≡ n = digits_value-decimal own n big in
    let k : nat_le n 16800000 ≡ true = grind (arith, nat_tests) in
    rw (form, v, k) refl

pub length_of-says : (ds : List ℕ) (n : ℕ) → length_of ds ≡ Some n → (ds ≡ decimal n) × (n ≤ 16800000)
length_of-says ds n e =
    let (form, in_form) = some_if (has_length_form ds) _ n e in
    let (fits, same) = cond_some (nat_le (digits_value 10 ds) 16800000) (digits_value 10 ds) n in_form in
    let s = form_says ds form in
    let few : digits_value 10 ds ≤ 16800000 = grind (arith, nat_tests, fits) in
    let low : digits_value 10 ds < 2 ^ 64 = omega arith in
    (sym (decimal-digits_value own ds s.0 s.1 s.3 low) ∙ ap decimal same, omega arith)
