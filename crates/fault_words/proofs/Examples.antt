-- The definitions at some numbers, and at a limit.
use Rattle.fault_words.proofs.Common.{◌≡◌, codes, refl}
use Rattle.std.specs.Fmt.{digits}
use Rattle.fault_words.specs.Numbers.{grouped}
use Rattle.fault_words.specs.FaultWords.{too_long_words}

groups_three_digits :
    (grouped 0 ≡ codes "0") × (grouped 999 ≡ codes "999") × (grouped 1_000 ≡ codes "1,000") × (grouped 20_304 ≡ codes "20,304")
    × (grouped 999_999 ≡ codes "999,999") × (grouped 1_000_000 ≡ codes "1,000,000") × (grouped 405_060_708_009 ≡ codes "405,060,708,009")
unfolding grouped digits
groups_three_digits = (refl, refl, refl, refl, refl, refl, refl)

-- the most bytes of a form, as it is now
tells_a_limit : too_long_words ≡ codes "the form is longer than 16,777,216 bytes, the most that is judged (SIZE)"
unfolding grouped digits
tells_a_limit = refl
