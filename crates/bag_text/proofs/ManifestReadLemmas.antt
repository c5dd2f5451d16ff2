-- Reading the lines of a manifest, against what they list.
use Rattle.bag_text.proofs.FirstLemmas.{◌≡◌, ℕ, ◌+◌, ◌<◌, Bool, true, false, cond, not, List, [], ◌∷◌, ◌++◌, length, refl, sym, ap, subst, ◌∙◌, ◌⊎◌, inl, inr, arith, append_assoc, Some, None, Result, Ok, Err, is_ok, list_all, is_utf8, insert_entry, nat_cmp, slice_cmp, false≢true, append-nil, length_push, decode_sized, Version, Algorithm, Checksum, LineFault, BadChecksum, NoPath, ListedTwice, is_blank, AreBlanks, has_mark, begins_with, lines, GoodPath, Spells, decode, size_of, IsEntry, LineIs, as_manifest, ListsOn, IsSoundBefore, AscendingPaths, sum_text, path_text, IsReached, ManifestFault, ◌>>=◌, Entries, checksum_in, path_spelled, entry_of, is_path_listed, add_line_of, entries_of, manifest_of, ok_is, good_again, spells_decoded, spelled_is_decoded, Has, NotUtf8, ByteOrderMark}
use Rattle.bag_text.specs.declared.listing.LineFault.TheVariants.{BadPath}
use Rattle.bag_text.specs.ManifestReading.{Entry}
use Rattle.bag_text.proofs.ManifestLineLemmas.{LineView, bad_checksum, no_path, bad_path, sound, line_view, reads_bad_checksum, reads_no_path, reads_bad_path, reads_sound, EntryRead, sound_entry, blank_is_no_entry, entry_digits, entry_spelled}
use Rattle.bag_text.proofs.ManifestEntryLemmas.{At, at_front, at_within, at_back, at_last, at_push, listed_has, has_listed, put_new, put_old, put_cases, put_ascends, paths_in}
use Rattle.bag_text.proofs.CaseLemmas.{by_Bool, by_Result}

-- some path and checksum that a line lists
abbrev pub IsSomeEntry : Version → Algorithm → List ℕ → Type 0
IsSomeEntry v a line = (path : List ℕ) × (checksum : List ℕ) × IsEntry v a line path checksum

-- the line of this number lists a path
abbrev pub ListsAt : Version → Algorithm → List (List ℕ) → ℕ → List ℕ → List ℕ → Type 0
ListsAt v a ls n path checksum = (line : List ℕ) × At ls n line × IsEntry v a line path checksum

-- the line that an entry was read of
abbrev pub ReadAt : Version → Algorithm → List (List ℕ) → List ℕ → Entry → Type 0
ReadAt v a ls path entry = (line : List ℕ) × At ls entry.line line × EntryRead v a line path entry

-- an entry of a path with this line
abbrev pub HasOn : Entries → List ℕ → ℕ → Type 0
HasOn es path n = (entry : Entry) × Has es (path, entry) × (entry.line ≡ n)

-- the lines are blanks or list a path, each another, and the entries are what they list
pub record IsSoundList (v : Version) (a : Algorithm) (ls : List (List ℕ)) (es : Entries) : Type 0 where
  pub each : (n : ℕ) (line : List ℕ) → At ls n line → AreBlanks line ⊎ IsSomeEntry v a line
  pub once : (first second : ℕ) (path one two : List ℕ) → first < second → ListsAt v a ls first path one → ListsAt v a ls second path two → ⊥
  pub read : (path : List ℕ) (entry : Entry) → Has es (path, entry) → ReadAt v a ls path entry
  pub listed : (n : ℕ) (path checksum : List ℕ) → ListsAt v a ls n path checksum → HasOn es path n
  pub ascending : AscendingPaths (paths_in es)

-- no lines list nothing
no_lines_sound : (v : Version) (a : Algorithm) → IsSoundList v a [] []
no_lines_sound v a = record {
  each = λ n line at. absurd (none n line at);
  once = λ first second path one two lt a b. absurd (none first a.0 a.1);
  read = λ path entry h. absurd h;
  listed = λ n path checksum l. absurd (none n l.0 l.1);
  ascending = tt;
}
  where
    none : (n : ℕ) (line : List ℕ) → At [] n line → ⊥
    none n line at = cc (at.1)

-- ---- one line more

module _ (v : Version) (a : Algorithm) (ls : List (List ℕ)) (line : List ℕ) where
  -- what a line of the longer list is
  each_more : ((n : ℕ) (l : List ℕ) → At ls n l → AreBlanks l ⊎ IsSomeEntry v a l) → AreBlanks line ⊎ IsSomeEntry v a line → (n : ℕ) (l : List ℕ) → At (ls ++ line ∷ []) n l → AreBlanks l ⊎ IsSomeEntry v a l
  each_more each last n l at =
      elim (at_push ls line n l at) [ inl before ↦ each n l before | inr new ↦ subst (λ (x : List ℕ). AreBlanks x ⊎ IsSomeEntry v a x) new.1 last ]

  -- what lists a path on the longer list
  lists_cases : (n : ℕ) (path checksum : List ℕ) → ListsAt v a (ls ++ line ∷ []) n path checksum → ListsAt v a ls n path checksum ⊎ ((n ≡ length ls + 1) × IsEntry v a line path checksum)
  lists_cases n path checksum (l, at, entry) = elim (at_push ls line n l at) [
    | inl before ↦ inl (l, before, entry)
    | inr new ↦ inr (new.0, subst (λ (x : List ℕ). IsEntry v a x path checksum) (sym new.1) entry)
  ]

  once_more : ((first second : ℕ) (path one two : List ℕ) → first < second → ListsAt v a ls first path one → ListsAt v a ls second path two → ⊥)
      → ((n : ℕ) (path one two : List ℕ) → ListsAt v a ls n path one → IsEntry v a line path two → ⊥)
      → (first second : ℕ) (path one two : List ℕ) → first < second → ListsAt v a (ls ++ line ∷ []) first path one → ListsAt v a (ls ++ line ∷ []) second path two → ⊥
  once_more once apart first second path one two lt l m = by_places (lists_cases first path one l) (lists_cases second path two m)
    where
      by_places : ListsAt v a ls first path one ⊎ ((first ≡ length ls + 1) × IsEntry v a line path one) → ListsAt v a ls second path two ⊎ ((second ≡ length ls + 1) × IsEntry v a line path two) → ⊥
      by_places (inl x) (inl y) = once first second path one two lt x y
      by_places (inl x) (inr y) = apart first path one two x y.1
      by_places (inr x) (inl y) = let within = at_within ls second y.0 y.1 in omega (arith, x.0)
      by_places (inr x) (inr y) = omega (arith, x.0, y.0)

  read_before : (path : List ℕ) (entry : Entry) → ReadAt v a ls path entry → ReadAt v a (ls ++ line ∷ []) path entry
  read_before path entry (l, at, is) = (l, at_front ls (line ∷ []) entry.line l at, is)

-- a line of blanks adds nothing
blank_more : (v : Version) (a : Algorithm) (ls : List (List ℕ)) (line : List ℕ) (es : Entries) → IsSoundList v a ls es → AreBlanks line → IsSoundList v a (ls ++ line ∷ []) es
blank_more v a ls line es before blank = record {
  each = each_more v a ls line before.each (inl blank);
  once = once_more v a ls line before.once (λ n path one two l e. blank_is_no_entry v a line path two blank e);
  read = λ path entry h. read_before v a ls line path entry (before.read path entry h);
  listed = λ n path checksum l.
      elim (lists_cases v a ls line n path checksum l) [ inl l ↦ before.listed n path checksum l | inr new ↦ absurd (blank_is_no_entry v a line path checksum blank new.1) ];
  ascending = before.ascending;
}

-- a line lists one path
pub one_path_a_line : (v : Version) (a : Algorithm) (line p q one two : List ℕ) → IsEntry v a line p one → IsEntry v a line q two → (p ≡ q) × (one ≡ two)
one_path_a_line v a line p q one two x y = (both_paths, both_sums)
  where
    spelled : x.spelled ≡ y.spelled
    spelled = sym (entry_spelled v a line p one x) ∙ entry_spelled v a line q two y

    digits : x.digits ≡ y.digits
    digits = sym (entry_digits v a line p one x) ∙ entry_digits v a line q two y

    both_paths : p ≡ q
    both_paths = sym (spelled_is_decoded v x.spelled p x.spells) ∙ ap (decode v) spelled ∙ spelled_is_decoded v y.spelled q y.spells

    both_sums : one ≡ two
    both_sums = ok_is one two (sym x.checked ∙ ap (λ (d : List ℕ). decode_sized d (size_of a)) digits ∙ y.checked)

-- a line that lists a new path adds its entry
entry_more : (v : Version) (a : Algorithm) (ls : List (List ℕ)) (line : List ℕ) (es : Entries) (path : List ℕ) (entry : Entry) → IsSoundList v a ls es → is_path_listed path es ≡ false → entry.line ≡ length ls + 1 → EntryRead v a line path entry
    → IsSoundList v a (ls ++ line ∷ []) (insert_entry (slice_cmp nat_cmp) es path entry)
entry_more v a ls line es path entry before new number is = record {
  each = each_more v a ls line before.each (inr (path, is.bytes, is.entry_is));
  once = once_more v a ls line before.once apart;
  read = λ q other h. by_entry q other (put_cases es path entry (q, other) new h);
  listed = λ n q checksum l. by_place n q checksum (lists_cases v a ls line n q checksum l);
  ascending = put_ascends es path entry new before.ascending;
}
  where
    apart : (n : ℕ) (q one two : List ℕ) → ListsAt v a ls n q one → IsEntry v a line q two → ⊥
    apart n q one two l e =
        let same = (one_path_a_line v a line path q is.bytes two is.entry_is e).0 in
        let found = before.listed n q one l in
        false≢true (sym new ∙ ap (λ (p : List ℕ). is_path_listed p es) same ∙ has_listed q found.0 es found.1)

    here : ReadAt v a (ls ++ line ∷ []) path entry
    here = (line, subst (λ (n : ℕ). At (ls ++ line ∷ []) n line) (sym number) (at_last ls line []), is)

    by_entry : (q : List ℕ) (other : Entry) → (◌≡◌ {A = List ℕ × Entry} (path, entry) (q, other)) ⊎ Has es (q, other) → ReadAt v a (ls ++ line ∷ []) q other
    by_entry q other (inl e) = subst (λ (x : List ℕ × Entry). ReadAt v a (ls ++ line ∷ []) x.0 x.1) e here
    by_entry q other (inr h) = read_before v a ls line q other (before.read q other h)

    old : (q : List ℕ) (n : ℕ) → HasOn es q n → HasOn (insert_entry (slice_cmp nat_cmp) es path entry) q n
    old q n (other, h, e) = (other, put_old es path entry (q, other) new h, e)

    by_place : (n : ℕ) (q checksum : List ℕ) → ListsAt v a ls n q checksum ⊎ ((n ≡ length ls + 1) × IsEntry v a line q checksum) → HasOn (insert_entry (slice_cmp nat_cmp) es path entry) q n
    by_place n q checksum (inl l) = old q n (before.listed n q checksum l)
    by_place n q checksum (inr (e, one)) =
        let same = (one_path_a_line v a line path q is.bytes checksum is.entry_is one).0 in
        subst (λ (p : List ℕ). HasOn (insert_entry (slice_cmp nat_cmp) es path entry) p n) same (entry, put_new es path entry new, number ∙ sym e)

-- ---- a line at fault

module _ (v : Version) (a : Algorithm) (text : List ℕ) (ls more : List (List ℕ)) (is : lines text ≡ ls ++ more) (es : Entries) (before : IsSoundList v a ls es) where
  back : (n : ℕ) (line : List ℕ) → n < length ls + 1 → LineIs text n line → At ls n line
  back n line lt at = at_back ls more n line lt (subst (λ (x : List (List ℕ)). At x n line) is at)

  lists_back : (n : ℕ) (path checksum : List ℕ) → n < length ls + 1 → ListsOn (as_manifest v a text) n path checksum → ListsAt v a ls n path checksum
  lists_back n path checksum lt (line, at, entry) = (line, back n line lt at, entry)

  lists_front : (n : ℕ) (line : List ℕ) → At ls n line → LineIs text n line
  lists_front n line at = subst (λ (x : List (List ℕ)). At x n line) (sym is) (at_front ls more n line at)

  lines_before : IsSoundBefore v a text (length ls + 1)
  lines_before = record {
    each = λ n line lt at. before.each n line (back n line lt at);
    once = λ first second path one two lt end l m. let first_end : first < length ls + 1 = omega arith in before.once first second path one two lt (lists_back first path one first_end l) (lists_back second path two end m);
  }

-- whether a checksum stands
has_none : (a : Algorithm) (digits : List ℕ) → checksum_in a digits ≡ None → is_ok (decode_sized digits (size_of a)) ≡ false
has_none a digits e =
    by_Result (decode_sized digits (size_of a)) (λ bytes is. let wrong = rw is at e in absurd cc) (λ f is. rw is refl)

-- where a checksum was read, one stands
has_some : (a : Algorithm) (digits : List ℕ) (c : Checksum) → checksum_in a digits ≡ Some c → is_ok (decode_sized digits (size_of a)) ≡ true
has_some a digits c e =
    by_Result (decode_sized digits (size_of a)) (λ bytes is. rw is refl) (λ f is. let wrong = rw is at e in absurd cc)

-- what is wrong with a path that can't be read
bad_spelling : (v : Version) (spelled : List ℕ) → path_spelled v spelled ≡ None → (begins_with 42 spelled ≡ true) ⊎ ((path : List ℕ) × Spells v spelled path × (GoodPath path → ⊥))
bad_spelling v spelled e = by_Bool (begins_with 42 spelled) (λ star. inl star) (λ star.
    inr (decode v spelled, spells_decoded v spelled, λ fine. let wrong = rw (star, good_again (decode v spelled) fine) at e in absurd cc))

-- what the entries are after a line, or the text's first fault
LineOutcome : Version → Algorithm → List ℕ → List (List ℕ) → Result Entries LineFault → Type 0
LineOutcome v a text ls (Ok es) = IsSoundList v a ls es
LineOutcome v a text ls (Err fault) = ManifestFault v a text fault

-- a line of blanks changes nothing
add_blank : (v : Version) (a : Algorithm) (n : ℕ) (es : Entries) (line : List ℕ) → list_all is_blank line ≡ true → add_line_of v a n es line ≡ Ok es
unfolding add_line_of
add_blank v a n es line blank = rw blank refl

-- a line at fault
add_fault : (v : Version) (a : Algorithm) (n : ℕ) (es : Entries) (line : List ℕ) (fault : LineFault) → list_all is_blank line ≡ false → entry_of v a n line ≡ Err fault → add_line_of v a n es line ≡ Err fault
unfolding add_line_of
add_fault v a n es line fault full e = rw (full, e) refl

-- a line whose path is listed already
add_twice : (v : Version) (a : Algorithm) (n : ℕ) (es : Entries) (line : List ℕ) (x : List ℕ × Entry) → list_all is_blank line ≡ false → entry_of v a n line ≡ Ok x → is_path_listed x.0 es ≡ true → add_line_of v a n es line ≡ Err (ListedTwice n)
unfolding add_line_of
add_twice v a n es line x full e known = rw (full, e, known) refl

-- a line whose path is new
add_new : (v : Version) (a : Algorithm) (n : ℕ) (es : Entries) (line : List ℕ) (x : List ℕ × Entry) → list_all is_blank line ≡ false → entry_of v a n line ≡ Ok x → is_path_listed x.0 es ≡ false → add_line_of v a n es line ≡ Ok (insert_entry (slice_cmp nat_cmp) es x.0 x.1)
unfolding add_line_of
add_new v a n es line x full e new = rw (full, e, new) refl

-- one line more
line_outcome : (v : Version) (a : Algorithm) (text : List ℕ) (ls : List (List ℕ)) (line : List ℕ) (more : List (List ℕ)) (es : Entries) → is_utf8 text ≡ true → has_mark text ≡ false → lines text ≡ ls ++ line ∷ more → IsSoundList v a ls es
    → LineOutcome v a text (ls ++ line ∷ []) (add_line_of v a (length ls + 1) es line)
unfolding LineOutcome
line_outcome v a text ls line more es utf8 unmarked is before =
    by_Bool (list_all is_blank line) (λ blank. told _ (add_blank v a n es line blank) (blank_more v a ls line es before blank)) (λ full. of_view full (line_view v a line))
  where
    n : ℕ
    n = length ls + 1

    here : LineIs text n line
    here = subst (λ (x : List (List ℕ)). At x n line) (sym is) (at_last ls line more)

    reached : list_all is_blank line ≡ false → IsReached v a text n line
    reached full = record { utf8 = utf8; unmarked = unmarked; before = lines_before v a text ls (line ∷ more) is es before; is = here; full = full }

    told : (r : Result Entries LineFault) → add_line_of v a n es line ≡ r → LineOutcome v a text (ls ++ line ∷ []) r → LineOutcome v a text (ls ++ line ∷ []) (add_line_of v a n es line)
    told r e outcome = subst (λ (x : Result Entries LineFault). LineOutcome v a text (ls ++ line ∷ []) x) (sym e) outcome

    of_listed : list_all is_blank line ≡ false → (path : List ℕ) (entry : Entry) → entry_of v a n line ≡ Ok (path, entry) → entry.line ≡ n → EntryRead v a line path entry → (x : Bool) → is_path_listed path es ≡ x → LineOutcome v a text (ls ++ line ∷ []) (add_line_of v a n es line)
    of_listed full path entry e number read false new = told _ (add_new v a n es line (path, entry) full e new) (entry_more v a ls line es path entry before new number read)
    of_listed full path entry e number read true known =
        let old = listed_has path es known in
        let first = before.read path old.0 old.1 in
        told _ (add_twice v a n es line (path, entry) full e known) (line, reached full, (old.0.line, path, first.2.bytes, read.bytes, at_within ls old.0.line first.0 first.1, (first.0, lists_front v a text ls (line ∷ more) is es before old.0.line first.0 first.1, first.2.entry_is), read.entry_is))

    of_view : list_all is_blank line ≡ false → LineView v a line → LineOutcome v a text (ls ++ line ∷ []) (add_line_of v a n es line)
    of_view full (bad_checksum e) = told _ (add_fault v a n es line (BadChecksum n) full (reads_bad_checksum v a n line e)) (line, reached full, has_none a (sum_text line) e)
    of_view full (no_path c e none) = told _ (add_fault v a n es line (NoPath n) full (reads_no_path v a n line c e none)) (line, reached full, has_some a (sum_text line) c e, none)
    of_view full (bad_path c e some bad) = told _ (add_fault v a n es line (BadPath n) full (reads_bad_path v a n line c e some bad)) (line, reached full, has_some a (sum_text line) c e, some, bad_spelling v (path_text line) bad)
    of_view full (sound c p e some path) = of_listed full p.0 (record { checksum = c; line = n; is_decoded = p.1 }) (reads_sound v a n line c p e some path) refl (sound_entry v a n line c p e some path) (is_path_listed p.0 es) refl

-- ---- line after line

-- the first line, then the others
one_line : (v : Version) (a : Algorithm) (n : ℕ) (es : Entries) (line : List ℕ) (more : List (List ℕ)) → entries_of v a n es (line ∷ more) ≡ (add_line_of v a n es line >>= λ now. entries_of v a (n + 1) now more)
unfolding entries_of
one_line v a n es line more = refl

-- after the last line
all_lines : (v : Version) (a : Algorithm) (n : ℕ) (es : Entries) → entries_of v a n es [] ≡ Ok es
unfolding entries_of
all_lines v a n es = refl

-- all lines that are left
lines_outcome : (v : Version) (a : Algorithm) (text : List ℕ) (rest ls : List (List ℕ)) (es : Entries) → is_utf8 text ≡ true → has_mark text ≡ false → lines text ≡ ls ++ rest → IsSoundList v a ls es
    → LineOutcome v a text (lines text) (entries_of v a (length ls + 1) es rest)
unfolding LineOutcome
lines_outcome v a text [] ls es utf8 unmarked is before =
    subst (λ (x : Result Entries LineFault). LineOutcome v a text (lines text) x) (sym (all_lines v a (length ls + 1) es)) (subst (λ (x : List (List ℕ)). IsSoundList v a x es) (sym (is ∙ append-nil ls)) before)
lines_outcome v a text (line ∷ more) ls es utf8 unmarked is before =
    let outcome = line_outcome v a text ls line more es utf8 unmarked is before in
    let number : length (ls ++ line ∷ []) + 1 ≡ length ls + 1 + 1 = ap (λ (n : ℕ). n + 1) (length_push ls line) in
    by_Result (add_line_of v a (length ls + 1) es line)
    (λ now e.
    let step : entries_of v a (length ls + 1) es (line ∷ more) ≡ entries_of v a (length ls + 1 + 1) now more = one_line v a (length ls + 1) es line more ∙ ap (λ (r : Result Entries LineFault). r >>= λ x. entries_of v a (length ls + 1 + 1) x more) e in
    subst (λ (x : Result Entries LineFault). LineOutcome v a text (lines text) x) (ap (λ (n : ℕ). entries_of v a n now more) number ∙ sym step)
    (lines_outcome v a text more (ls ++ line ∷ []) now utf8 unmarked (is ∙ sym (append_assoc ls (line ∷ []) more)) (rw e at outcome)))
    (λ fault e.
    let step : entries_of v a (length ls + 1) es (line ∷ more) ≡ Err fault = one_line v a (length ls + 1) es line more ∙ ap (λ (r : Result Entries LineFault). r >>= λ x. entries_of v a (length ls + 1 + 1) x more) e in
    subst (λ (x : Result Entries LineFault). LineOutcome v a text (lines text) x) (sym step) (rw e at outcome))

-- what a manifest's entries are, or its first fault
unfoldable pub IsOutcome : Version → Algorithm → List ℕ → Result Entries LineFault → Type 0
IsOutcome v a text (Ok es) = (is_utf8 text ≡ true) × (has_mark text ≡ false) × IsSoundList v a (lines text) es
IsOutcome v a text (Err fault) = ManifestFault v a text fault

-- what reading a text gives is what it lists, or its first fault
pub manifest_outcome : (v : Version) (a : Algorithm) (text : List ℕ) → IsOutcome v a text (manifest_of v a text)
unfolding IsOutcome LineOutcome manifest_of
manifest_outcome v a text = by_tests (is_utf8 text) refl (has_mark text) refl
  where
    of_lines : is_utf8 text ≡ true → has_mark text ≡ false → (r : Result Entries LineFault) → LineOutcome v a text (lines text) r → IsOutcome v a text r
    of_lines utf8 unmarked (Ok es) outcome = (utf8, unmarked, outcome)
    of_lines utf8 unmarked (Err fault) outcome = outcome

    by_tests : (utf8 : Bool) → is_utf8 text ≡ utf8 → (mark : Bool) → has_mark text ≡ mark → IsOutcome v a text (cond (not utf8) (Err NotUtf8) (cond mark (Err ByteOrderMark) (entries_of v a 1 [] (lines text))))
    by_tests false u mark m = u
    by_tests true u true m = (u, m)
    by_tests true u false m = of_lines u m (entries_of v a 1 [] (lines text)) (lines_outcome v a text (lines text) [] [] u m refl (no_lines_sound v a))
