-- One more digit of a number.
use Rattle.office_core.proofs.Common.{◌≡◌, ℕ, ◌+◌, ◌*◌, ◌-◌, ◌<◌, ◌^◌, List, length, take, get_or, true, sym, ◌∙◌, arith, add-one, nat_tests, list_all, IsInRange, digit_value_digit, false≢true}
use Rattle.std.proofs.Math.Nat.{pow-suc}
use Rattle.std.specs.Char.{is_ascii_digit}
use Rattle.std.specs.Str.Parse.{digits_value}
use Rattle.std.proofs.lemmas.List.Folds.{list_all_at}
use Rattle.std.proofs.lemmas.Int.Digits.{digits_value_more}
use Rattle.office_core.proofs.OptionLemmas.{by_Bool}

is_digit : (digits : List ℕ) (i : ℕ) → i < length digits → list_all is_ascii_digit digits ≡ true → IsInRange 48 57 (get_or digits i 0)
is_digit digits i h all =
    by_Bool (is_ascii_digit (get_or digits i 0)) (λ digit. (grind (arith, nat_tests, digit), grind (arith, nat_tests, digit)))
    (λ other. absurd (false≢true (sym (list_all_at is_ascii_digit digits i 0 h other) ∙ all)))

pub one_digit : (digits : List ℕ) (i n d : ℕ) → i < length digits → list_all is_ascii_digit digits ≡ true → n ≡ digits_value 10 (take i digits) → n < 10 ^ i → d ≡ get_or digits i 0 - 48
    → (n * 10 + d ≡ digits_value 10 (take (i + 1) digits)) × (n * 10 + d < 10 ^ (i + 1))
one_digit digits i n d h all is low by_d =
    let r = is_digit digits i h all in
    let v = digit_value_digit (get_or digits i 0) r in
    let m = digits_value_more 10 digits i h in
    let p : 10 ^ (i + 1) ≡ 10 ^ i * 10 = rw add-one (pow-suc 10 i) in
    (omega arith, omega arith)
