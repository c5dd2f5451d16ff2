-- The digits of a content length.
use Rattle.desk_heads.proofs.Common.{◌≡◌, ℕ, List, true, arith, nat_tests, list_all, is_ascii_digit}
use Rattle.desk_heads.specs.Heads.{is_length_text}

pub all_digits : (text : List ℕ) → is_length_text text ≡ true → list_all is_ascii_digit text ≡ true
all_digits text h = grind (arith, nat_tests)
