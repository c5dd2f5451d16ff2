-- Percent-decoding, as what a text means.
use Rattle.desk_forms.proofs.Common.{◌≡◌, ℕ, ◌+◌, ◌*◌, ◌<◌, true, false, List, [], ◌∷◌, refl, sym, ap, ◌∙◌, subst, arith, cond_both, nat_tests}
use Rattle.std.specs.Char.{digit_value}
use Rattle.percent_encoding.specs.Percent.{percent_decode, is_escape}
use Rattle.percent_encoding.proofs.PercentLemmas.{percent_decode-nil, percent_decode_escape, KeepsFirst_from_no_escape}
use Rattle.desk_forms.specs.Paths.{WritesDigit, BeginsTriplet, DecodesTo, nothing, triplet, itself}

-- the number that a digit writes is the digit's value
value_written : (byte n : ℕ) → WritesDigit byte n → (digit_value byte ≡ n) × (n < 16)
value_written byte n writes = grind (arith, nat_tests)

-- a byte whose value is below 16 is a digit that writes it
digit_written : (byte : ℕ) → digit_value byte < 16 → WritesDigit byte (digit_value byte)
digit_written byte small = grind (arith, nat_tests)

-- what is decoded at a byte that begins no triplet
decode_itself : (byte : ℕ) (rest : List ℕ) → ¬ BeginsTriplet (byte ∷ rest) → percent_decode (byte ∷ rest) ≡ byte ∷ percent_decode rest
unfolding percent_decode
decode_itself byte [] apart = refl
decode_itself byte (first ∷ []) apart = refl
decode_itself byte (first ∷ second ∷ rest) apart =
    KeepsFirst_from_no_escape (byte ∷ first ∷ second ∷ rest) (λ long percent hex_first hex_second. apart (record {
      first = first;
      second = second;
      others = rest;
      high = digit_value first;
      low = digit_value second;
      spelled = ap (λ b. b ∷ (first ∷ (second ∷ rest))) percent;
      writes_high = digit_written first hex_first;
      writes_low = digit_written second hex_second;
    }))

-- what a text means is what it decodes to
pub decoded_from_meaning : (path bytes : List ℕ) → DecodesTo path bytes → percent_decode path ≡ bytes
decoded_from_meaning _ _ nothing = percent_decode-nil
decoded_from_meaning _ _ (triplet first second high low rest bytes writes_high writes_low means) =
    let h = value_written first high writes_high in
    let l = value_written second low writes_low in
    percent_decode_escape 37 first second rest refl (omega (arith, h.0, h.1)) (omega (arith, l.0, l.1))
    ∙ ap (λ x. (16 * x + digit_value second) ∷ percent_decode rest) h.0
    ∙ ap (λ x. (16 * high + x) ∷ percent_decode rest) l.0
    ∙ ap (λ x. (16 * high + low) ∷ x) (decoded_from_meaning rest bytes means)
decoded_from_meaning _ _ (itself byte rest bytes apart means) =
    decode_itself byte rest apart ∙ ap (λ x. byte ∷ x) (decoded_from_meaning rest bytes means)

-- one byte, or two, begin no triplet
no_triplet_of_one : (a : ℕ) → ¬ BeginsTriplet (a ∷ [])
no_triplet_of_one a t = let e = t.spelled in cc

no_triplet_of_two : (a b : ℕ) → ¬ BeginsTriplet (a ∷ (b ∷ []))
no_triplet_of_two a b t = let e = t.spelled in cc

-- three bytes that are no escape begin no triplet
no_triplet_of_three : (a b c : ℕ) (rest : List ℕ) → is_escape a b c ≡ false → ¬ BeginsTriplet (a ∷ (b ∷ (c ∷ rest)))
no_triplet_of_three a b c rest apart t =
    let at : a ≡ 37 = let e = t.spelled in cc in
    let is_first : b ≡ t.first = let e = t.spelled in cc in
    let is_second : c ≡ t.second = let e = t.spelled in cc in
    let h = value_written t.first t.high t.writes_high in
    let l = value_written t.second t.low t.writes_low in
    let high : digit_value b < 16 = rw is_first (omega (arith, h.0, h.1)) in
    let low : digit_value c < 16 = rw is_second (omega (arith, l.0, l.1)) in
    grind (arith, nat_tests)

escape_parts : (a b c : ℕ) → is_escape a b c ≡ true → (a ≡ 37) × (digit_value b < 16) × (digit_value c < 16)
escape_parts a b c h = grind (arith, nat_tests)

-- a text means what it decodes to
pub means_decoded : (path : List ℕ) → DecodesTo path (percent_decode path)
unfolding percent_decode
means_decoded [] = nothing
means_decoded (a ∷ []) = itself a [] [] (no_triplet_of_one a) nothing
means_decoded (a ∷ b ∷ []) =
    itself a (b ∷ []) (b ∷ []) (no_triplet_of_two a b) (itself b [] [] (no_triplet_of_one b) nothing)
means_decoded (a ∷ b ∷ c ∷ rest) =
    let after_triplet = means_decoded rest in
    let after_byte = means_decoded (b ∷ c ∷ rest) in
    cond_both (is_escape a b c) ((16 * digit_value b + digit_value c) ∷ percent_decode rest) (a ∷ percent_decode (b ∷ c ∷ rest)) (DecodesTo (a ∷ b ∷ c ∷ rest))
    (λ h. let parts = escape_parts a b c h in
    let P : ℕ → Type 0 = λ x. DecodesTo (x ∷ (b ∷ (c ∷ rest))) ((16 * digit_value b + digit_value c) ∷ percent_decode rest) in
    subst P (sym parts.0) (triplet b c (digit_value b) (digit_value c) rest (percent_decode rest) (digit_written b parts.1) (digit_written c parts.2) after_triplet))
    (λ h. itself a (b ∷ (c ∷ rest)) (percent_decode (b ∷ (c ∷ rest))) (no_triplet_of_three a b c rest h) after_byte)

pub decoded_iff_means : (path bytes : List ℕ) → (percent_decode path ≡ bytes → DecodesTo path bytes) × (DecodesTo path bytes → percent_decode path ≡ bytes)
decoded_iff_means path bytes = (λ e. subst (DecodesTo path) e (means_decoded path), decoded_from_meaning path bytes)
