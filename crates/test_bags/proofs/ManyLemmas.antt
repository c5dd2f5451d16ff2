-- Forms of many files.
use Rattle.std.proofs.Common.{◌≡◌, ℕ, zero, suc, ◌+◌, ◌-◌, ◌^◌, List, [], ◌∷◌, ◌++◌, length, false, ap, sym, ◌∙◌, append_assoc, append-nil, add-zero, zero-add, codes, arith}
use Rattle.std.specs.Fmt.{decimal, styled_decimal, padded_integral, format_spec, char_count}
use Rattle.std.specs.List.{flat_map, range_with_len}
use Rattle.test_bags.specs.ManyFiles.{four_digits, empty_file, form_without_end}

-- what `{:04}` writes
pub written : (n : ℕ) → padded_integral (format_spec 32 0 4 4 (2 ^ 64 - 1)) false [] (decimal n) ≡ four_digits n
unfolding padded_integral char_count
written n =
    let short : 4 - length (decimal n) - 0 - 0 ≡ 4 - length (decimal n) = omega arith in
    rw (append-nil (decimal n), short)

-- one more number is one more text at the end
pub one_more : (f : ℕ → List ℕ) (a n : ℕ) → flat_map f (range_with_len a (n + 1)) ≡ flat_map f (range_with_len a n) ++ f (a + n)
one_more f a zero = append-nil (f a) ∙ ap f (sym (add-zero a))
one_more f a (suc n) =
    let more : flat_map f (range_with_len (a + 1) (n + 1)) ≡ flat_map f (range_with_len (a + 1) n) ++ f (a + 1 + n) = one_more f (a + 1) n in
    let last : a + 1 + n ≡ a + suc n = omega arith in
    let one : suc n + 1 ≡ suc (n + 1) = omega arith in
    rw (one, more, last) (sym (append_assoc (f a) (flat_map f (range_with_len (a + 1) n)) (f (a + suc n))))

-- a form with one more file
pub grows : (n : ℕ) (form file longer : List ℕ) → form ≡ form_without_end n
    → file ≡ codes "FILE 4 0\n" ++ (styled_decimal (format_spec 32 0 4 4 (2 ^ 64 - 1)) n ++ 10 ∷ []) → longer ≡ form ++ file
    → longer ≡ form_without_end (n + 1)
unfolding form_without_end
grows n form file longer before one is =
    let next : 0 + n ≡ n = zero-add n in
    rw (is, before, one, written n, one_more empty_file 0 n, next)
