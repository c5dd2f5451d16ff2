-- The parts of a head that are texts, and what is found of its fields.
use Rattle.desk_heads.proofs.Common.{◌≡◌, ℕ, ◌<◌, List, true, arith, IsUtf8, nat_tests, All-weaker, AllPass-from_list_all, list_all, IsName, is_name_byte}
use Rattle.std.proofs.lemmas.Str.{IsUtf8-from_ascii}
use Rattle.std.proofs.lemmas.Str.Ascii.{IsAscii-from_all}
use Rattle.httparse.specs.Grammar.{is_token_byte, IsToken}

token_byte_is_ascii : (b : ℕ) → is_token_byte b ≡ true → b < 128
unfolding is_token_byte
token_byte_is_ascii b token = grind (arith, nat_tests)

pub token_is_text : (bytes : List ℕ) → IsToken bytes → IsUtf8 bytes
token_is_text bytes token = IsUtf8-from_ascii bytes (IsAscii-from_all bytes (All-weaker (λ b. is_token_byte b ≡ true) (λ b. b < 128) token_byte_is_ascii bytes token.1))

name_byte_is_ascii : (b : ℕ) → is_name_byte b ≡ true → b < 128
name_byte_is_ascii b name = grind (arith, nat_tests)

all_name_bytes : (bytes : List ℕ) → IsName bytes → list_all is_name_byte bytes ≡ true
all_name_bytes bytes name = grind (arith, nat_tests)

pub name_is_text : (bytes : List ℕ) → IsName bytes → IsUtf8 bytes
name_is_text bytes name = IsUtf8-from_ascii bytes (IsAscii-from_all bytes (All-weaker (λ b. is_name_byte b ≡ true) (λ b. b < 128) name_byte_is_ascii bytes (AllPass-from_list_all is_name_byte bytes (all_name_bytes bytes name))))
