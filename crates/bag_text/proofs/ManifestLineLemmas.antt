-- What one line of a manifest lists, read and as a relation.
use Rattle.bag_text.proofs.FirstLemmas.{inl, inr, cases_Bool, false_from_ne_true, ok_if, ok_unless, ◌≡◌, one-add, ℕ, zero, suc, ◌+◌, ◌*◌, ◌/◌, ◌%◌, Bool, true, false, cond, eqb, List, [], ◌∷◌, ◌++◌, length, take, drop, refl, sym, ap, subst, ◌∙◌, ◌⊎◌, append_assoc, Option, Some, None, Result, Ok, Err, list_any, list_all, position_or_len, eqb-true, or_cases, or_parts, and_parts, or_from, take-append-drop, take_at, drop_at, same_Some, drop-nil, decode_sized, decode_pairs, hex_digit_value, digit_or_error, FromHexError, Version, Algorithm, Checksum, BadChecksum, NoPath, is_blank, begins_with, skip_blanks, GoodPath, is_good, Spells, has_coded, decode, size_of, checksum_of, IsEntry, sum_text, path_text, good_of, path_spelled, checksum_in, entry_of, ◌≢◌, good_read, good_again, not_empty, spells_decoded, spelled_is_decoded}
use Rattle.hex.specs.Hex.{◌>>=◌}
use Rattle.bag_text.specs.declared.listing.LineFault.TheVariants.{BadPath}
use Rattle.bag_text.specs.ManifestReading.{Entry}
use Rattle.hex.specs.declared.error.FromHexError.TheVariants.{OddLength, InvalidStringLength}
use Rattle.bag_text.proofs.CaseLemmas.{by_Bool, by_Option, by_Result}
use Rattle.bag_text.proofs.ResultLemmas.{some_if}

-- ---- the three parts of a line

-- the blanks at the front
abbrev pub first_blanks : List ℕ → List ℕ
first_blanks [] = []
first_blanks (b ∷ t) = cond (is_blank b) (b ∷ first_blanks t) []

-- a text is its blanks at the front and the rest
blanks_then : (t : List ℕ) → t ≡ first_blanks t ++ skip_blanks t
blanks_then [] = refl
blanks_then (b ∷ t) =
    elim (cases_Bool (is_blank b)) [ inl e ↦ rw e (ap (λ (r : List ℕ). b ∷ r) (blanks_then t)) | inr e ↦ rw e refl ]

-- the blanks at the front are blanks
all_blank : (t : List ℕ) → list_all is_blank (first_blanks t) ≡ true
all_blank [] = refl
all_blank (b ∷ t) = elim (cases_Bool (is_blank b)) [ inl e ↦ rw e (rw (e, all_blank t) refl) | inr e ↦ rw e refl ]

-- blanks are skipped once
skipped_twice : (t : List ℕ) → skip_blanks (skip_blanks t) ≡ skip_blanks t
skipped_twice [] = refl
skipped_twice (b ∷ t) = elim (cases_Bool (is_blank b)) [ inl e ↦ rw e (skipped_twice t) | inr e ↦ rw e (rw e refl) ]

-- what stands after the digits begins with a blank
blank_first : (t : List ℕ) → drop (position_or_len is_blank t) t ≢ [] → first_blanks (drop (position_or_len is_blank t) t) ≢ []
blank_first [] some = absurd (some refl)
blank_first (b ∷ t) some = by_Bool (is_blank b)
    (λ e. rw e (rw e (λ h. absurd cc)))
    (λ e. rw (e, one-add) (blank_first t (rw (e, one-add) at some)))

-- where the digits end
digits_end : (digits : List ℕ) (b : ℕ) (t : List ℕ) → list_any is_blank digits ≡ false → is_blank b ≡ true → position_or_len is_blank (digits ++ b ∷ t) ≡ length digits
digits_end [] b t none blank = rw blank refl
digits_end (d ∷ digits) b t none blank =
    let parts = or_parts (is_blank d) (list_any is_blank digits) none in
    rw (parts.0, digits_end digits b t parts.1 blank) (one-add (length digits))

-- the front of a text in two parts
-- blanks at the front are skipped
skipped : (blanks spelled : List ℕ) → list_all is_blank blanks ≡ true → skip_blanks (blanks ++ spelled) ≡ skip_blanks spelled
skipped [] spelled e = refl
skipped (b ∷ blanks) spelled e =
    let parts = and_parts (is_blank b) (list_all is_blank blanks) e in
    rw parts.0 (skipped blanks spelled parts.1)

-- ---- hex digits are no blanks

-- a hex digit is no blank
is_digit : (b x : ℕ) → hex_digit_value b ≡ Some x → is_blank b ≡ false
is_digit b x e = false_from_ne_true (is_blank b) (λ is. no_blank (or_cases (eqb b 32) (eqb b 9) is))
  where
    no_blank : (eqb b 32 ≡ true) ⊎ (eqb b 9 ≡ true) → ⊥
    no_blank (inl is) = let one : hex_digit_value 32 ≡ Some x = subst (λ (c : ℕ). hex_digit_value c ≡ Some x) (eqb-true b 32 is) e in absurd cc
    no_blank (inr is) = let one : hex_digit_value 9 ≡ Some x = subst (λ (c : ℕ). hex_digit_value c ≡ Some x) (eqb-true b 9 is) e in absurd cc

-- what is read of two digits and of those after them
abbrev pair_by : ℕ → ℕ → ℕ → Option ℕ → Option ℕ → Result (List ℕ) FromHexError → Result (List ℕ) FromHexError
pair_by h l i first second rest =
    (digit_or_error h i first >>= λ x. digit_or_error l (i + 1) second >>= λ y. Ok (x * 16 + y)) >>= λ byte. rest >>= λ bytes. Ok (byte ∷ bytes)

-- what is read of two digits was read of each, and the others are read too
record PairRead (first second : Option ℕ) (rest : Result (List ℕ) FromHexError) : Type 0 where
  x : ℕ
  y : ℕ
  bytes : List ℕ
  is_first : first ≡ Some x
  is_second : second ≡ Some y
  others : rest ≡ Ok bytes

-- what was read of two digits
pair_parts : (h l i : ℕ) (first second : Option ℕ) (rest : Result (List ℕ) FromHexError) (c : List ℕ) → pair_by h l i first second rest ≡ Ok c → PairRead first second rest
pair_parts h l i (Some x) (Some y) (Ok bytes) c e = record { x = x; y = y; bytes = bytes; is_first = refl; is_second = refl; others = refl }
pair_parts h l i _ _ _ c e = absurd cc

-- what is read as pairs of digits has no blank
pairs_no_blank : (i : ℕ) (s c : List ℕ) → decode_pairs i s ≡ Ok c → list_any is_blank s ≡ false
unfolding decode_pairs
pairs_no_blank i [] c e = refl
pairs_no_blank i (d ∷ []) c e = absurd cc
pairs_no_blank i (h ∷ l ∷ s) c e =
    let parts = pair_parts h l i (hex_digit_value h) (hex_digit_value l) (decode_pairs (i + 2) s) c e in
    or_from (is_blank h) (list_any is_blank (l ∷ s)) (is_digit h parts.x parts.is_first) (or_from (is_blank l) (list_any is_blank s) (is_digit l parts.y parts.is_second) (pairs_no_blank (i + 2) s parts.bytes parts.others))

-- no blank stands in the digits of a checksum
digits_no_blank : (digits : List ℕ) (n : ℕ) (c : List ℕ) → decode_sized digits n ≡ Ok c → list_any is_blank digits ≡ false
digits_no_blank digits n c e =
    let even = ok_unless (eqb (length digits % 2) 1) OddLength (cond (eqb (length digits / 2) n) (decode_pairs 0 digits) (Err InvalidStringLength)) c e in
    pairs_no_blank 0 digits c (ok_if (eqb (length digits / 2) n) (decode_pairs 0 digits) InvalidStringLength c even.1).1

-- ---- the parts of an entry's line

-- the digits end where the blanks begin
front_len : (digits blanks spelled : List ℕ) → list_any is_blank digits ≡ false → list_all is_blank blanks ≡ true → blanks ≢ [] → position_or_len is_blank (digits ++ (blanks ++ spelled)) ≡ length digits
front_len digits [] spelled none all some = absurd (some refl)
front_len digits (b ∷ blanks) spelled none all some = digits_end digits b (blanks ++ spelled) none (and_parts (is_blank b) (list_all is_blank blanks) all).0

-- an entry's digits end at the first blank
entry_front : (v : Version) (a : Algorithm) (line path checksum : List ℕ) (e : IsEntry v a line path checksum) → position_or_len is_blank (e.digits ++ (e.blanks ++ e.spelled)) ≡ length e.digits
entry_front v a line path checksum e = front_len e.digits e.blanks e.spelled (digits_no_blank e.digits (size_of a) checksum e.checked) e.all_blanks e.some_blanks

-- an entry's line in its three parts
entry_parts : (v : Version) (a : Algorithm) (line path checksum : List ℕ) (e : IsEntry v a line path checksum) → line ≡ e.digits ++ (e.blanks ++ e.spelled)
entry_parts v a line path checksum e = e.is ∙ append_assoc e.digits e.blanks e.spelled

-- what stands before the first blank are an entry's digits
pub entry_digits : (v : Version) (a : Algorithm) (line path checksum : List ℕ) (e : IsEntry v a line path checksum) → sum_text line ≡ e.digits
entry_digits v a line path checksum e =
    ap sum_text (entry_parts v a line path checksum e) ∙ ap (λ (n : ℕ). take n (e.digits ++ (e.blanks ++ e.spelled))) (entry_front v a line path checksum e) ∙ take_at e.digits (e.blanks ++ e.spelled) (length e.digits) refl

-- what stands after the blanks spells an entry's path
pub entry_spelled : (v : Version) (a : Algorithm) (line path checksum : List ℕ) (e : IsEntry v a line path checksum) → path_text line ≡ e.spelled
entry_spelled v a line path checksum e =
    ap path_text (entry_parts v a line path checksum e) ∙ ap (λ (n : ℕ). skip_blanks (drop n (e.digits ++ (e.blanks ++ e.spelled)))) (entry_front v a line path checksum e)
    ∙ ap skip_blanks (drop_at e.digits (e.blanks ++ e.spelled) (length e.digits) refl) ∙ skipped e.blanks e.spelled e.all_blanks ∙ e.whole_run

-- ---- reading a line

-- digits that spell a checksum are read so
pub checksum_reads : (a : Algorithm) (line checksum : List ℕ) → decode_sized (sum_text line) (size_of a) ≡ Ok checksum → checksum_in a (sum_text line) ≡ Some (checksum_of a checksum)
checksum_reads a line checksum e = rw e refl

-- an empty text spells no good path
bad_path_text : (v : Version) (p : List ℕ) → Spells v [] p → GoodPath p → ⊥
unfolding decode
bad_path_text v p spells good = good.some (sym (spelled_is_decoded v [] p spells))

-- the four ways of a line that isn't blank
pub data LineView (v : Version) (a : Algorithm) (line : List ℕ) : Type 0 where
  bad_checksum : checksum_in a (sum_text line) ≡ None → LineView v a line
  no_path : (c : Checksum) → checksum_in a (sum_text line) ≡ Some c → path_text line ≡ [] → LineView v a line
  bad_path : (c : Checksum) → checksum_in a (sum_text line) ≡ Some c → path_text line ≢ [] → path_spelled v (path_text line) ≡ None → LineView v a line
  sound : (c : Checksum) (p : List ℕ × Bool) → checksum_in a (sum_text line) ≡ Some c → path_text line ≢ [] → path_spelled v (path_text line) ≡ Some p → LineView v a line

-- each line goes one of the four ways
pub line_view : (v : Version) (a : Algorithm) (line : List ℕ) → LineView v a line
line_view v a line = by_Option (checksum_in a (sum_text line)) (λ e. bad_checksum e) (λ c e. of_text c e (path_text line) refl)
  where
    of_text : (c : Checksum) → checksum_in a (sum_text line) ≡ Some c → (s : List ℕ) → path_text line ≡ s → LineView v a line
    of_text c is [] e = no_path c is e
    of_text c is (b ∷ s) e =
        let some = λ (none : path_text line ≡ []). let both : b ∷ s ≡ [] = sym e ∙ none in absurd cc in
        by_Option (path_spelled v (path_text line)) (λ none. bad_path c is some none) (λ p found. sound c p is some found)

-- a line without its checksum
pub reads_bad_checksum : (v : Version) (a : Algorithm) (n : ℕ) (line : List ℕ) → checksum_in a (sum_text line) ≡ None → entry_of v a n line ≡ Err (BadChecksum n)
unfolding entry_of
reads_bad_checksum v a n line e = rw e refl

-- a line without a path
pub reads_no_path : (v : Version) (a : Algorithm) (n : ℕ) (line : List ℕ) (c : Checksum) → checksum_in a (sum_text line) ≡ Some c → path_text line ≡ [] → entry_of v a n line ≡ Err (NoPath n)
unfolding entry_of
reads_no_path v a n line c e none = rw (e, none) refl

-- a line whose path is no good one
pub reads_bad_path : (v : Version) (a : Algorithm) (n : ℕ) (line : List ℕ) (c : Checksum) → checksum_in a (sum_text line) ≡ Some c → path_text line ≢ [] → path_spelled v (path_text line) ≡ None → entry_of v a n line ≡ Err (BadPath n)
unfolding entry_of
reads_bad_path v a n line c e some bad = rw (e, not_empty (path_text line) some, bad) refl

-- a line with a checksum and a good path
pub reads_sound : (v : Version) (a : Algorithm) (n : ℕ) (line : List ℕ) (c : Checksum) (p : List ℕ × Bool) → checksum_in a (sum_text line) ≡ Some c → path_text line ≢ [] → path_spelled v (path_text line) ≡ Some p → entry_of v a n line ≡ Ok (p.0, record { checksum = c; line = n; is_decoded = p.1 })
unfolding entry_of
reads_sound v a n line c p e some is = rw (e, not_empty (path_text line) some, is) refl

-- a good path is taken
good_reads : (is_decoded : Bool) (path : List ℕ) → GoodPath path → good_of is_decoded path ≡ Some (path, is_decoded)
good_reads is_decoded path good = rw (good_again path good) refl

-- what spells a good path is read so
path_reads : (v : Version) (spelled path : List ℕ) → begins_with 42 spelled ≡ false → Spells v spelled path → GoodPath path → path_spelled v spelled ≡ Some (path, has_coded v spelled)
path_reads v spelled path star spells good = rw (star, spelled_is_decoded v spelled path spells) (good_reads (has_coded v spelled) path good)

-- a line that lists a path is read so
pub entry_reads : (v : Version) (a : Algorithm) (n : ℕ) (line path checksum : List ℕ) → IsEntry v a line path checksum → entry_of v a n line ≡ Ok (path, record { checksum = checksum_of a checksum; line = n; is_decoded = has_coded v (path_text line) })
entry_reads v a n line path checksum e =
    let digits = entry_digits v a line path checksum e in
    let spelled = entry_spelled v a line path checksum e in
    let sum : decode_sized (sum_text line) (size_of a) ≡ Ok checksum = rw digits e.checked in
    let some : path_text line ≢ [] = (λ none. bad_path_text v path (subst (λ (s : List ℕ). Spells v s path) (sym spelled ∙ none) e.spells) e.good) in
    let star : begins_with 42 (path_text line) ≡ false = rw spelled e.no_star in
    let spells : Spells v (path_text line) path = subst (λ (s : List ℕ). Spells v s path) (sym spelled) e.spells in
    reads_sound v a n line (checksum_of a checksum) (path, has_coded v (path_text line)) (checksum_reads a line checksum sum) some (path_reads v (path_text line) path star spells e.good)

-- the parts of a line whose checksum and path text stand are digits, blanks and the rest
line_parts : (line : List ℕ) → line ≡ (sum_text line ++ first_blanks (drop (position_or_len is_blank line) line)) ++ path_text line
line_parts line =
    let n = position_or_len is_blank line in
    sym (take-append-drop n line) ∙ ap (λ (r : List ℕ). take n line ++ r) (blanks_then (drop n line)) ∙ sym (append_assoc (take n line) (first_blanks (drop n line)) (skip_blanks (drop n line)))

-- what was read of a checksum's digits
record ChecksumRead (a : Algorithm) (digits : List ℕ) (c : Checksum) : Type 0 where
  bytes : List ℕ
  is : c ≡ checksum_of a bytes
  checked : decode_sized digits (size_of a) ≡ Ok bytes

-- a checksum that was read
checksum_parts : (a : Algorithm) (digits : List ℕ) (c : Checksum) → checksum_in a digits ≡ Some c → ChecksumRead a digits c
checksum_parts a digits c e = by_Result (decode_sized digits (size_of a))
    (λ bytes is. record { bytes = bytes; is = sym (same_Some (checksum_of a bytes) c (rw is at e)); checked = is })
    (λ f is. let wrong = rw is at e in absurd cc)

-- what was read of a spelled path
record PathRead (v : Version) (spelled : List ℕ) (p : List ℕ × Bool) : Type 0 where
  no_star : begins_with 42 spelled ≡ false
  is : p ≡ (decode v spelled, has_coded v spelled)
  good : GoodPath (decode v spelled)

-- a path that was read
path_parts : (v : Version) (spelled : List ℕ) (p : List ℕ × Bool) → path_spelled v spelled ≡ Some p → PathRead v spelled p
path_parts v spelled p e = by_Bool (begins_with 42 spelled) (λ star. let wrong = rw star at e in absurd cc) (λ star.
    let read = some_if (is_good (decode v spelled)) (Some (decode v spelled, has_coded v spelled)) p (rw star at e) in
    record { no_star = star; is = sym (same_Some (decode v spelled, has_coded v spelled) p read.1); good = good_read (decode v spelled) read.0 })

-- an entry was read of a line that lists its path
pub record EntryRead (v : Version) (a : Algorithm) (line path : List ℕ) (entry : Entry) : Type 0 where
  pub bytes : List ℕ
  pub checksum : entry.checksum ≡ checksum_of a bytes
  pub is_decoded : entry.is_decoded ≡ has_coded v (path_text line)
  pub entry_is : IsEntry v a line path bytes

-- what was read of a line is what it lists
pub sound_entry : (v : Version) (a : Algorithm) (n : ℕ) (line : List ℕ) (c : Checksum) (p : List ℕ × Bool) → checksum_in a (sum_text line) ≡ Some c → path_text line ≢ [] → path_spelled v (path_text line) ≡ Some p → EntryRead v a line p.0 (record { checksum = c; line = n; is_decoded = p.1 })
sound_entry v a n line c p e some is =
    let sum = checksum_parts a (sum_text line) c e in
    let path = path_parts v (path_text line) p is in
    let at = position_or_len is_blank line in
    record {
      bytes = sum.bytes;
      checksum = sum.is;
      is_decoded = ap (λ (q : List ℕ × Bool). q.1) path.is;
      entry_is = subst (λ (q : List ℕ × Bool). IsEntry v a line q.0 sum.bytes) (sym path.is) (record {
        digits = sum_text line;
        blanks = first_blanks (drop at line);
        spelled = path_text line;
        is = line_parts line;
        checked = sum.checked;
        some_blanks = blank_first line (λ none. some (ap skip_blanks none));
        all_blanks = all_blank (drop at line);
        whole_run = skipped_twice (drop at line);
        no_star = path.no_star;
        spells = spells_decoded v (path_text line);
        good = path.good;
      });
    }

-- a line of blanks lists nothing
pub blank_is_no_entry : (v : Version) (a : Algorithm) (line path checksum : List ℕ) → list_all is_blank line ≡ true → IsEntry v a line path checksum → ⊥
blank_is_no_entry v a line path checksum blank e =
    bad_path_text v path (subst (λ (s : List ℕ). Spells v s path) (sym (entry_spelled v a line path checksum e) ∙ none line blank) e.spells) e.good
  where
    skips : (t : List ℕ) → list_all is_blank t ≡ true → skip_blanks t ≡ []
    skips [] e = refl
    skips (b ∷ t) e = let parts = and_parts (is_blank b) (list_all is_blank t) e in rw parts.0 (skips t parts.1)

    dropped : (n : ℕ) (t : List ℕ) → list_all is_blank t ≡ true → list_all is_blank (drop n t) ≡ true
    dropped n [] e = ap (list_all is_blank) (drop-nil n)
    dropped zero (b ∷ t) e = e
    dropped (suc n) (b ∷ t) e = dropped n t (and_parts (is_blank b) (list_all is_blank t) e).1

    none : (t : List ℕ) → list_all is_blank t ≡ true → path_text t ≡ []
    none t e = skips (drop (position_or_len is_blank t) t) (dropped (position_or_len is_blank t) t e)
