-- Reading the lines of `bag-info.txt`.
use Rattle.bag_text.proofs.FirstLemmas.{nat_tests, inl, inr, cases_Bool, some_if, ok_unless, ok_is, ◌≡◌, one-add, ℕ, suc, zero, ◌+◌, ◌-◌, ◌<◌, ◌≤◌, Bool, true, false, cond, eqb, not, ◌||◌, List, [], ◌∷◌, ◌++◌, length, take, drop, refl, sym, ap, subst, ◌∙◌, ◌⊎◌, arith, append_assoc, Option, Some, None, Result, Ok, Err, Contains, list_any, list_all, position_or_len, AllByRecursion, option_to_list, is_utf8, IsCharBoundary, cow_str_bytes, IsUtf8-from_is_utf8, is_utf8-from_IsUtf8, IsUtf8-take, IsUtf8-drop, IsCharBoundary-after_ascii, prefix_len-le-length, append-nil, map_push, nil_from_length, same_Some, list_any-append, and_parts, or_parts, or_right, get_or-append_seam, take-append_seam, drop-append-add, take-length, is_blank, AreBlanks, skip_blanks, drop_last_blanks, is_end, lines, LF, CR, CRLF, end_bytes, EndsBefore, AreLines, InfoFault, NoColon, EmptyLabel, StrayContinuation, Pair, is_colon, begins_blank, ◌>>=◌, FailsAs, label_of, value_of, colon_cut, pair_of, extend_last, add_info_line, pairs_from, named_info_fault, CodePair, pair_in, pairs_of, has_line_feed, IsOwnedIfContinued, AreMarked, length-append, IsUtf8, fails_on, dropped}
use Rattle.bag_text.specs.Lines.{End}
use Rattle.std.proofs.lemmas.List.Elements.{Contains-append_left, Contains-push_cases}
use Rattle.bag_text.proofs.LineLemmas.{no_lines, are_lines}
use Rattle.bag_text.proofs.InfoLemmas.{cut_again, has_colon, extended, some_pairs, unfolded_lines, no_lines_left}
use Rattle.bag_text.proofs.CaseLemmas.{by_Bool}

-- ---- the first colon

-- the first colon stands within the line
pub colon_fits : (line : List ℕ) → position_or_len is_colon line ≤ length line
colon_fits line = prefix_len-le-length (λ b. not (is_colon b)) line

-- where nothing stands from the first colon on, there is none
pub no_colon_left : (line : List ℕ) → drop (position_or_len is_colon line) line ≡ [] → list_any is_colon line ≡ false
no_colon_left [] e = refl
no_colon_left (a ∷ line) e = by_Bool (is_colon a)
    (λ is. let wrong = rw is at e in absurd cc)
    (λ isnt. rw isnt (no_colon_left line (rw (isnt, one-add) at e)))

-- what stands from the first colon on begins with it
pub colon_left : (line : List ℕ) (b : ℕ) (after : List ℕ) → drop (position_or_len is_colon line) line ≡ b ∷ after → (list_any is_colon line ≡ true) × (drop (position_or_len is_colon line + 1) line ≡ after)
colon_left [] b after e = absurd cc
colon_left (a ∷ line) b after e = by_first (is_colon a) refl (position_or_len is_colon line) e (λ e. colon_left line b after e)
  where
    by_first : (x : Bool) → is_colon a ≡ x → (n : ℕ) → drop (cond (not x) (1 + n) 0) (a ∷ line) ≡ b ∷ after → (drop n line ≡ b ∷ after → (list_any is_colon line ≡ true) × (drop (n + 1) line ≡ after)) → ((x || list_any is_colon line) ≡ true) × (drop (cond (not x) (1 + n) 0 + 1) (a ∷ line) ≡ after)
    by_first true is n e again = (refl, cc)
    by_first false is n e again =
        let h = again (ap (λ (k : ℕ). drop k (a ∷ line)) (sym (one-add n)) ∙ e) in
        let far : 1 + n + 1 ≡ suc (n + 1) = omega arith in
        (h.0, ap (λ (k : ℕ). drop k (a ∷ line)) far ∙ h.1)

abbrev found : List ℕ × List ℕ → Option (List ℕ × List ℕ)
found x = Some x

-- a line of which nothing stands from the first colon on is not cut
pub nothing_behind : (line rest : List ℕ) (n : ℕ) → n ≡ position_or_len is_colon line → rest ≡ drop n line → length rest < 1 → ◌≡◌ {A = Option (List ℕ × List ℕ)} None (colon_cut line)
nothing_behind line rest n place is short = let none : list_any is_colon line ≡ false = no_colon_left line (ap (λ (k : ℕ). drop k line) (sym place) ∙ sym is ∙ nil_from_length rest (omega arith)) in rw none refl

-- a line of which something stands from the first colon on is cut there
pub something_behind : (line front rest : List ℕ) (n : ℕ) → n ≡ position_or_len is_colon line → front ≡ take n line → rest ≡ drop n line → 1 ≤ length rest → found (front, take (length rest - 1) (drop 1 rest)) ≡ colon_cut line
something_behind line front [] n place is rest-is some = absurd (omega arith)
something_behind line front (b ∷ after) n place is rest-is some =
    let left = colon_left line b after (ap (λ (k : ℕ). drop k line) (sym place) ∙ sym rest-is) in
    let count : length (b ∷ after) - 1 ≡ length after = omega arith in
    let all : take (length (b ∷ after) - 1) after ≡ after = ap (λ (k : ℕ). take k after) count ∙ take-length after in
    let front-is : front ≡ take (position_or_len is_colon line) line = is ∙ ap (λ (k : ℕ). take k line) place in
    rw left.0 (ap (λ (x : List ℕ). found (x, take (length (b ∷ after) - 1) after)) front-is ∙ ap (λ (x : List ℕ). found (take (position_or_len is_colon line) line, x)) (all ∙ sym left.1))

-- ---- slices of a text are text

-- a text is cut before and after an ASCII character
pub cut_text : (a : List ℕ) (b : ℕ) (c : List ℕ) → is_utf8 (a ++ b ∷ c) ≡ true → b < 128 → (is_utf8 a ≡ true) × (is_utf8 c ≡ true)
cut_text a b c e small =
    let whole = IsUtf8-from_is_utf8 (a ++ b ∷ c) e in
    let at = get_or-append_seam a b c 0 in
    let len = length-append a (b ∷ c) in
    let fits : length a < length (a ++ b ∷ c) = omega (arith, len) in
    let front : IsCharBoundary (a ++ b ∷ c) (length a) = (omega (arith, len), λ lt high. absurd (omega (arith, at, small, high))) in
    let back = IsCharBoundary-after_ascii (a ++ b ∷ c) (length a) whole fits (omega (arith, at, small)) in (
      is_utf8-from_IsUtf8 a (subst IsUtf8 (take-append_seam a (b ∷ c)) (IsUtf8-take (a ++ b ∷ c) (length a) whole front)),
      is_utf8-from_IsUtf8 c (subst IsUtf8 (drop-append-add a (b ∷ c) 1) (IsUtf8-drop (a ++ b ∷ c) (length a + 1) whole back)),
    )

-- a blank is an ASCII character
blank_is_ascii : (b : ℕ) → is_blank b ≡ true → b < 128
blank_is_ascii b e = grind (arith, nat_tests)

-- a text without its first blanks is text
pub skipped_text : (t : List ℕ) → is_utf8 t ≡ true → is_utf8 (skip_blanks t) ≡ true
skipped_text [] e = e
skipped_text (b ∷ t) e =
    elim (cases_Bool (is_blank b)) [ inl is ↦ rw is (skipped_text t (cut_text [] b t e (blank_is_ascii b is)).1) | inr is ↦ rw is e ]

-- a text without its last blanks is text
pub dropped_text : (t : List ℕ) → is_utf8 t ≡ true → is_utf8 (drop_last_blanks t) ≡ true
dropped_text t e = let back = dropped t in by_after back.after back.blanks back.is
  where
    by_after : (after : List ℕ) → AreBlanks after → t ≡ drop_last_blanks t ++ after → is_utf8 (drop_last_blanks t) ≡ true
    by_after [] blanks is = ap is_utf8 (sym (is ∙ append-nil (drop_last_blanks t))) ∙ e
    by_after (b ∷ after) blanks is = (cut_text (drop_last_blanks t) b after (ap is_utf8 (sym is) ∙ e) (blank_is_ascii b (and_parts (is_blank b) _ blanks).0)).0

-- what stands before the first colon of a text, and after it, is text
pub parts_text : (line : List ℕ) → is_utf8 line ≡ true → list_any is_colon line ≡ true → (is_utf8 (take (position_or_len is_colon line) line) ≡ true) × (is_utf8 (drop (position_or_len is_colon line + 1) line) ≡ true)
parts_text line e colon =
    let cut = has_colon line colon in
    let found = cut_again cut.front cut.back cut.no_colon in
    let small : 58 < 128 = omega arith in
    let parts = cut_text cut.front 58 cut.back (ap is_utf8 (sym cut.is) ∙ e) small in (
      ap is_utf8 (ap (λ (l : List ℕ). take (position_or_len is_colon l) l) cut.is ∙ found.front_is) ∙ parts.0,
      ap is_utf8 (ap (λ (l : List ℕ). drop (position_or_len is_colon l + 1) l) cut.is ∙ found.back_is) ∙ parts.1,
    )

-- what a cut gave
pub record WasCut (line front back : List ℕ) : Type 0 where
  pub colon : list_any is_colon line ≡ true
  pub front_is : front ≡ take (position_or_len is_colon line) line
  pub back_is : back ≡ drop (position_or_len is_colon line + 1) line

-- a cut is at the first colon
pub was_cut : (line : List ℕ) (o : Option (List ℕ × List ℕ)) (front back : List ℕ) → o ≡ colon_cut line → o ≡ Some (front, back) → WasCut line front back
was_cut line o front back is some =
    let parts : List ℕ × List ℕ = (take (position_or_len is_colon line) line, drop (position_or_len is_colon line + 1) line) in
    let cut = some_if (list_any is_colon line) (found parts) (front, back) (sym is ∙ some) in
    let same = same_Some parts (front, back) cut.1 in
    record { colon = cut.0; front_is = ap (λ (x : List ℕ × List ℕ). x.0) (sym same); back_is = ap (λ (x : List ℕ × List ℕ). x.1) (sym same) }

-- a label of a text is text
pub label_text : (line front back : List ℕ) → is_utf8 line ≡ true → WasCut line front back → is_utf8 (drop_last_blanks front) ≡ true
label_text line front back e cut = dropped_text front (ap is_utf8 cut.front_is ∙ (parts_text line e cut.colon).0)

-- a value of a text is text
pub value_text : (line front back : List ℕ) → is_utf8 line ≡ true → WasCut line front back → is_utf8 (skip_blanks back) ≡ true
value_text line front back e cut = skipped_text back (ap is_utf8 cut.back_is ∙ (parts_text line e cut.colon).1)

-- ---- lines

-- a line of a text: text that has no end
abbrev pub IsSoundLine : List ℕ → Type 0
IsSoundLine line = (is_utf8 line ≡ true) × (list_any is_end line ≡ false)

-- the lines of a text are sound
pub sound_lines : (t : List ℕ) → is_utf8 t ≡ true → AllByRecursion IsSoundLine (lines t)
sound_lines t e = sound (lines t) t e (are_lines t)
  where
    end_cut : (l rest : List ℕ) (end : End) → is_utf8 (l ++ end_bytes end ++ rest) ≡ true → (is_utf8 l ≡ true) × (is_utf8 rest ≡ true)
    end_cut l rest LF e = cut_text l 10 rest (ap is_utf8 (sym (append_assoc l (10 ∷ []) rest)) ∙ e) (omega arith)
    end_cut l rest CR e = cut_text l 13 rest (ap is_utf8 (sym (append_assoc l (13 ∷ []) rest)) ∙ e) (omega arith)
    end_cut l rest CRLF e =
        let one = cut_text l 13 (10 ∷ rest) (ap is_utf8 (sym (append_assoc l (13 ∷ 10 ∷ []) rest)) ∙ e) (omega arith) in
        (one.0, (cut_text [] 10 rest one.1 (omega arith)).1)

    sound : (ls : List (List ℕ)) (t : List ℕ) → is_utf8 t ≡ true → AreLines t ls → AllByRecursion IsSoundLine ls
    sound [] t e is = tt
    sound (l ∷ ls) t e (no_end, rest) = of_end rest (λ t e is. sound ls t e is)
      where
        of_end : ((t ≡ l) × (l ≡ [] → ⊥) × (ls ≡ [])) ⊎ ((end : End) × (rest : List ℕ) × (t ≡ l ++ end_bytes end ++ rest) × EndsBefore end rest × AreLines rest ls) → ((t : List ℕ) → is_utf8 t ≡ true → AreLines t ls → AllByRecursion IsSoundLine ls) → AllByRecursion IsSoundLine (l ∷ ls)
        of_end (inl h) again = ((ap is_utf8 (sym h.0) ∙ e, no_end), subst (AllByRecursion IsSoundLine) (sym h.2) tt)
        of_end (inr (end, rest, whole, before, more)) again =
            let parts = end_cut l rest end (ap is_utf8 (sym whole) ∙ e) in
            ((parts.0, no_end), again rest parts.1 more)

-- the first line is sound, and so are the others
pub first_sound : (t line after : List ℕ) → lines t ≡ line ∷ lines after → AllByRecursion IsSoundLine (lines t) → IsSoundLine line × AllByRecursion IsSoundLine (lines after)
first_sound t line after is all = subst (AllByRecursion IsSoundLine) is all

-- a line of which no blank is left has blanks alone
pub blanks_alone : (line : List ℕ) → skip_blanks line ≡ [] → list_all is_blank line ≡ true
blanks_alone [] e = refl
blanks_alone (b ∷ line) e =
    elim (cases_Bool (is_blank b)) [ inl is ↦ rw is (blanks_alone line (rw is at e)) | inr is ↦ let wrong = rw is at e in absurd cc ]

-- the same, of the length of what is left
pub no_rest : (line : List ℕ) → length (skip_blanks line) ≡ 0 → list_all is_blank line ≡ true
no_rest line e = blanks_alone line (nil_from_length (skip_blanks line) e)

-- a line of which something is left has more than blanks
pub more_than_blanks : (line : List ℕ) → 0 < length (skip_blanks line) → list_all is_blank line ≡ false
more_than_blanks [] h = absurd (omega arith)
more_than_blanks (b ∷ line) h =
    elim (cases_Bool (is_blank b)) [ inl is ↦ rw is (more_than_blanks line (rw is at h)) | inr is ↦ rw is refl ]

-- what a continuation adds
pub add_continued : (n : ℕ) (before : List Pair) (line : List ℕ) → list_all is_blank line ≡ false → begins_blank line ≡ true → add_info_line n before line ≡ cond (eqb (length before) 0) (Err (StrayContinuation n)) (Ok (extend_last before (skip_blanks line)))
unfolding add_info_line
add_continued n before line e g = rw (e, g) refl

-- ---- the last pair

-- pairs of which the last was taken
last_is : (old init : List CodePair) (last : Option CodePair) (kept : CodePair) → old ≡ init ++ option_to_list last → last ≡ Some kept → old ≡ init ++ kept ∷ []
last_is old init last kept is some = is ∙ ap (λ (o : Option CodePair). init ++ option_to_list o) some

-- the last pair with one line more
pub continued : (n : ℕ) (old init now : List CodePair) (last : Option CodePair) (kept next : CodePair) (line : List ℕ) → old ≡ init ++ option_to_list last → last ≡ Some kept → now ≡ init ++ next ∷ [] → pair_in next ≡ record { label = kept.0.now; value = cow_str_bytes kept.1 ++ 10 ∷ line }
    → cond (eqb (length (pairs_of old)) 0) (Err (StrayContinuation n)) (Ok (extend_last (pairs_of old) line)) ≡ Ok (pairs_of now)
continued n old init now last kept next line is some now-is next-is =
    let before : pairs_of old ≡ pairs_of init ++ pair_in kept ∷ [] = ap pairs_of (last_is old init last kept is some) ∙ map_push pair_in init kept in
    let after : pairs_of now ≡ pairs_of init ++ pair_in next ∷ [] = ap pairs_of now-is ∙ map_push pair_in init next in
    let so : extend_last (pairs_of init ++ pair_in kept ∷ []) line ≡ pairs_of now = extended (pairs_of init) (pair_in kept) line ∙ ap (λ (p : Pair). pairs_of init ++ p ∷ []) (sym next-is) ∙ sym after in
    rw (before, some_pairs (pairs_of init) (pair_in kept)) (ap (λ (x : List Pair). Ok x) so)

-- a value that was joined has an LF
pub joined_feed : (value more line : List ℕ) → value ≡ more ++ 10 ∷ line → has_line_feed value ≡ true
joined_feed value more line is = ap has_line_feed is ∙ list_any-append (λ b. eqb b 10) more (10 ∷ line) ∙ or_right (list_any (λ b. eqb b 10) more) true refl

-- no pairs
pub none_marked : (now : List CodePair) → now ≡ [] → AreMarked now
none_marked now is other in_now = let place = (subst (λ (x : List CodePair). Contains x other) is in_now).1 in absurd (omega (arith, place))

-- pairs of which the last is another
pub marked_last : (old init now : List CodePair) (last : Option CodePair) (kept next : CodePair) → old ≡ init ++ option_to_list last → last ≡ Some kept → now ≡ init ++ next ∷ [] → IsOwnedIfContinued next → AreMarked old → AreMarked now
marked_last old init now last kept next is some now-is marked all other in_now = elim (Contains-push_cases init next other (subst (λ (x : List CodePair). Contains x other) now-is in_now)) [
  | inl before ↦ all other (subst (λ (x : List CodePair). Contains x other) (sym (last_is old init last kept is some)) (Contains-append_left init (kept ∷ []) other before))
  | inr same ↦ subst IsOwnedIfContinued same marked
]

-- pairs and one more
pub marked_more : (old now : List CodePair) (next : CodePair) → now ≡ old ++ next ∷ [] → IsOwnedIfContinued next → AreMarked old → AreMarked now
marked_more old now next now-is marked all other in_now =
    elim (Contains-push_cases old next other (subst (λ (x : List CodePair). Contains x other) now-is in_now)) [ inl before ↦ all other before | inr same ↦ subst IsOwnedIfContinued same marked ]

-- a value of one line has no LF
no_feed : (t : List ℕ) → list_any is_end t ≡ false → has_line_feed t ≡ false
no_feed [] e = refl
no_feed (b ∷ t) e =
    let parts = or_parts (is_end b) (list_any is_end t) e in
    let first = (or_parts (eqb b 10) (eqb b 13) parts.0).0 in
    rw first (no_feed t parts.1)

-- what stands after a place of a line has no end
no_end_drop : (n : ℕ) (t : List ℕ) → list_any is_end t ≡ false → list_any is_end (drop n t) ≡ false
no_end_drop zero t e = e
no_end_drop (suc n) [] e = refl
no_end_drop (suc n) (b ∷ t) e = no_end_drop n t (or_parts (is_end b) (list_any is_end t) e).1

-- a line without its first blanks has no end
no_end_skip : (t : List ℕ) → list_any is_end t ≡ false → list_any is_end (skip_blanks t) ≡ false
no_end_skip [] e = refl
no_end_skip (b ∷ t) e =
    elim (cases_Bool (is_blank b)) [ inl is ↦ rw is (no_end_skip t (or_parts (is_end b) (list_any is_end t) e).1) | inr is ↦ rw is e ]

-- the value of a pair that a line is
pair_value : (n : ℕ) (line : List ℕ) (p : Pair) → pair_of n line ≡ Ok p → p.value ≡ value_of line
pair_value n line p e =
    let made : Pair = record { label = label_of line; value = value_of line } in
    let colon = ok_unless (not (list_any is_colon line)) (NoColon n) (cond (eqb (length (label_of line)) 0) (Err (EmptyLabel n)) (Ok made)) p e in
    let label = ok_unless (eqb (length (label_of line)) 0) (EmptyLabel n) (Ok made) p colon.1 in
    ap (λ (q : Pair). q.value) (sym (ok_is made p label.1))

-- a value of one line has no LF, read from its line
pub pair_feed : (n : ℕ) (line : List ℕ) (p : Pair) → pair_of n line ≡ Ok p → list_any is_end line ≡ false → has_line_feed p.value ≡ false
pair_feed n line p e no_end = ap has_line_feed (pair_value n line p e) ∙ no_feed (value_of line) (no_end_skip (drop (position_or_len is_colon line + 1) line) (no_end_drop (position_or_len is_colon line + 1) line no_end))

-- ---- line after line

-- where no line is left, all is read
pub all_read : (n : ℕ) (before : List Pair) (t : List ℕ) (total : Result (List Pair) InfoFault) → length t ≡ 0 → pairs_from n before (lines t) ≡ total → total ≡ Ok before
all_read n before t total e so_far = sym so_far ∙ ap (pairs_from n before) (no_lines t e) ∙ no_lines_left n before

-- a line that is added goes on
pub next_line : (n : ℕ) (before now : List Pair) (t line rest : List ℕ) (total : Result (List Pair) InfoFault)
    → lines t ≡ line ∷ lines rest → add_info_line n before line ≡ Ok now → pairs_from n before (lines t) ≡ total → pairs_from (n + 1) now (lines rest) ≡ total
next_line n before now t line rest total is e so_far =
    let one : pairs_from n before (lines t) ≡ pairs_from (n + 1) now (lines rest) = ap (pairs_from n before) is ∙ unfolded_lines n before line (lines rest) ∙ ap (λ (r : Result (List Pair) InfoFault). r >>= λ x. pairs_from (n + 1) x (lines rest)) e in
    sym one ∙ so_far

-- a line at fault is the fault of all
pub line_fails : (n : ℕ) (before : List Pair) (t line rest : List ℕ) (fault : InfoFault) (total : Result (List Pair) InfoFault)
    → lines t ≡ line ∷ lines rest → FailsAs (named_info_fault fault) (add_info_line n before line) → pairs_from n before (lines t) ≡ total → FailsAs (named_info_fault fault) total
line_fails n before t line rest fault total is e so_far = fails_on (named_info_fault fault) _ total one e
  where
    one : (f : InfoFault) → add_info_line n before line ≡ Err f → total ≡ Err f
    one f e = sym so_far ∙ ap (pairs_from n before) is ∙ unfolded_lines n before line (lines rest) ∙ ap (λ (r : Result (List Pair) InfoFault). r >>= λ x. pairs_from (n + 1) x (lines rest)) e
