-- Percent-encoding of URIs: RFC 3986, section 2.1.
use Rattle.std.specs.Prelude.{◌≡◌, ℕ, ◌+◌, ◌-◌, ◌*◌, ◌≤◌, ◌⊎◌, List, [], ◌∷◌}

-- the number that a hexadecimal digit writes, in either case: `0` to `9`, `A` to `F`, `a` to `f`
abbrev pub WritesDigit : ℕ → ℕ → Type 0
WritesDigit byte n =
    ((48 ≤ byte) × (byte ≤ 57) × (n ≡ byte - 48))
    ⊎ (((65 ≤ byte) × (byte ≤ 70) × (n ≡ byte - 55)) ⊎ ((97 ≤ byte) × (byte ≤ 102) × (n ≡ byte - 87)))

-- the text begins with a triplet: `%` and two hexadecimal digits, which write the numbers `high` and `low`
pub record BeginsTriplet (text : List ℕ) : Type 0 where
  pub first : ℕ
  pub second : ℕ
  pub others : List ℕ
  pub high : ℕ
  pub low : ℕ
  pub spelled : text ≡ 37 ∷ (first ∷ (second ∷ others))
  pub writes_high : WritesDigit first high
  pub writes_low : WritesDigit second low

-- the bytes that a text means: from the front, each triplet its octet, and any other byte itself
pub data DecodesTo : List ℕ → List ℕ → Type 0 where
  nothing : DecodesTo [] []
  triplet : (first second high low : ℕ) (rest bytes : List ℕ) → WritesDigit first high → WritesDigit second low → DecodesTo rest bytes → DecodesTo (37 ∷ (first ∷ (second ∷ rest))) ((16 * high + low) ∷ bytes)
  itself : (byte : ℕ) (rest bytes : List ℕ) → ¬ BeginsTriplet (byte ∷ rest) → DecodesTo rest bytes → DecodesTo (byte ∷ rest) (byte ∷ bytes)
