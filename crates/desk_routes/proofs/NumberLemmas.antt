-- A number of a path is read where it is written in decimal, with at most 7 digits.
use Rattle.desk_routes.proofs.Common.{◌≡◌, ℕ, ◌<◌, ◌≤◌, ◌==◌, ◌^◌, List, [], ◌∷◌, length, get_or, Bool, true, false, Result, Ok, Some, refl, sym, ap, ◌∙◌, arith, rules, cond, leb as nat_le, decimal, and_parts, nat_tests, list_all, has_slash, is_number, number_of, IsShortNumber}
use Rattle.std.specs.Char.{is_ascii_digit}
use Rattle.std.specs.Str.Parse.{digits_value, ParsesUnsigned}
use Rattle.std.proofs.lemmas.Str.Parse.{IsNumeralModel, IsDigitsTest, numerals_by_value, parse_gives, digits_value_short}
use Rattle.std.proofs.lemmas.Fmt.{decimal_digit, digits_decimal, digits_value-decimal, decimal-digits_value, decimal_nonempty, length-decimal-le, first_decimal}
use Rattle.desk_routes.proofs.PathLemmas.{IsPart}
use Rattle.office_core.proofs.OptionLemmas.{by_Bool}
use Rattle.std.proofs.lemmas.Option.{cond_some}

abbrev pub AreDigits : List ℕ → Type 0
AreDigits bs = list_all is_ascii_digit bs ≡ true

tells : IsDigitsTest AreDigits
tells = search rules

own : IsNumeralModel AreDigits (digits_value 10)
own = numerals_by_value AreDigits tells

unless : (a b : Bool) → cond a false b ≡ true → (a ≡ false) × (b ≡ true)
unless true b e = cc
unless false b e = (refl, e)

pub record Numeral (bs : List ℕ) : Type 0 where
  pub digits : AreDigits bs
  pub some : 0 < length bs
  pub few : length bs ≤ 7
  pub plain : get_or bs 0 0 ≡ 48 → length bs ≡ 1

says : (bs : List ℕ) → is_number bs ≡ true → Numeral bs
says [] e = cc
says (b ∷ []) e = record { digits = rw e refl; some = omega arith; few = omega arith; plain = λ q. refl }
says (b ∷ c ∷ rest) e =
    let u = unless (b == 48) _ e in
    let f = and_parts (nat_le (length (b ∷ c ∷ rest)) 7) (list_all is_ascii_digit (b ∷ c ∷ rest)) u.1 in
    let g : nat_le (length (b ∷ c ∷ rest)) 7 ≡ true = f.0 in
    let zero_not : (b == 48) ≡ false = u.0 in
    record { digits = f.1; some = omega arith; few = grind (arith, nat_tests); plain = λ q. absurd (grind (arith, nat_tests)) }

tests : (bs : List ℕ) → Numeral bs → is_number bs ≡ true
tests [] n = absurd (let s = n.some in omega arith)
tests (b ∷ []) n = let d = n.digits in grind arith
tests (b ∷ c ∷ rest) n =
    by_Bool (b == 48) (λ e. absurd (let same : b ≡ 48 = grind (arith, nat_tests) in let one : length (b ∷ c ∷ rest) ≡ 1 = n.plain same in omega arith))
    (λ e. let f = n.few in let few : nat_le (length (b ∷ c ∷ rest)) 7 ≡ true = grind (arith, nat_tests) in rw (e, few, n.digits) refl)

pub number_gives : {E : Type 0} (bs : List ℕ) (r : Result ℕ E) → ParsesUnsigned 32 10 bs r → is_number bs ≡ true → r ≡ Ok (digits_value 10 bs)
number_gives bs r h e =
    let s = says bs e in
    let small : digits_value 10 bs < 10 ^ 7 = digits_value_short own bs 7 s.digits s.few in
    parse_gives own 32 bs r h s.digits s.some (omega arith)

pub number_is : (bs : List ℕ) → is_number bs ≡ true → number_of bs ≡ Some (digits_value 10 bs)
number_is bs e = rw e refl

-- what is read is how the number is written
pub number-written : (bs : List ℕ) (n : ℕ) → number_of bs ≡ Some n → (bs ≡ decimal n) × IsShortNumber n
number-written bs n e =
    let (tested, same) = cond_some (is_number bs) (digits_value 10 bs) n e in
    let s = says bs tested in
    let small : digits_value 10 bs < 10 ^ 7 = digits_value_short own bs 7 s.digits s.few in
    (sym (decimal-digits_value own bs s.digits s.some s.plain (omega arith)) ∙ ap decimal same, omega arith)

first_is : (n : ℕ) → n < 2 ^ 64 → get_or (decimal n) 0 0 ≡ 48 → n ≡ 0
first_is n small e = elim (n == 0) as (λ v. (n == 0) ≡ v → n ≡ 0) [ true ↦ λ z. grind (arith, nat_tests) | false ↦ λ z. absurd (let pos : 0 < n = grind (arith, nat_tests) in let f = first_decimal n pos small in omega arith) ] refl

-- how a number is written is read as it
pub number-read : (n : ℕ) → IsShortNumber n → number_of (decimal n) ≡ Some n
number-read n small =
    let fits : n < 2 ^ 64 = omega arith in
    let numeral : Numeral (decimal n) = record {
      digits = digits_decimal own n fits;
      some = decimal_nonempty n fits;
      few = length-decimal-le 7 n (omega arith) (omega arith) fits;
      plain = λ q. ap (λ m. length (decimal m)) (first_is n fits q) ∙ ap length (decimal_digit 0 (omega arith));
    } in
    number_is (decimal n) (tests (decimal n) numeral) ∙ ap Some (digits_value-decimal own n fits)

no_slash : (bs : List ℕ) → AreDigits bs → has_slash bs ≡ false
no_slash [] d = refl
no_slash (b ∷ bs) d =
    let f = and_parts (is_ascii_digit b) (list_all is_ascii_digit bs) d in
    let digit : is_ascii_digit b ≡ true = f.0 in
    let other : (b == 47) ≡ false = grind (arith, nat_tests) in
    rw other (no_slash bs f.1)

pub number-part : (n : ℕ) → IsShortNumber n → IsPart (decimal n)
number-part n small = let fits : n < 2 ^ 64 = omega arith in (decimal_nonempty n fits, no_slash (decimal n) (digits_decimal own n fits))
