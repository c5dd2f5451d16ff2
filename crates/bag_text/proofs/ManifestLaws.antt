-- What is read of a manifest's text is what its lines list, and a refusal is its first fault.
use Rattle.bag_text.proofs.FirstLemmas.{false_from_ne_true, cases_Bool, ◌≡◌, ℕ, suc, ◌-◌, ◌<◌, Bool, true, false, List, [], ◌∷◌, length, refl, sym, ap, subst, ◌∙◌, ◌⊎◌, inl, inr, arith, Option, Some, None, Result, Ok, Err, IfOk, IfErr, IfSome, is_ok, is_some, ◌↔◌, Contains, is_utf8, nat_cmp, is_eq, slice_cmp, is_at, lookup, cow_str_bytes, IsBorrowedStr, false≢true, true≢false, cases_order, same_Some, slice_get_within, slice_get_read, get_or_from_slice_get, decode_sized, Version, Algorithm, Checksum, LineFault, BadChecksum, NoPath, ListedTwice, AreBlanks, has_mark, begins_with, lines, GoodPath, is_good, Spells, decode, has_coded, size_of, checksum_of, IsEntry, LineIs, as_manifest, ListsOn, LineLists, Lists, IsManifest, AscendingPaths, sum_text, path_text, IsReached, ManifestFault, FailsAs, Gives, Entries, checksum_in, path_spelled, entry_of, manifest_of, is_owned, entry_in, entries_in, paths_of, HasEntry, HasPath, listing_at, named_line_fault, map, Global, CowStr, Sha256, Sha512, Listing, never_both, same_err, good_read, spells_decoded, spelled_is_decoded, Has, contains_has, has_contains, has_map, map_has, NotUtf8, ByteOrderMark}
use Rattle.bag_text.specs.declared.listing.LineFault.TheVariants.{BadPath, Memory}
use Rattle.bag_text.specs.ManifestReading.{Entry}
use Rattle.std.specs.declared.borrow.CowStr.TheVariants as text
use Rattle.bag_text.specs.declared.listing.Manifest.{Manifest}
use Rattle.bag_text.proofs.ManifestLineLemmas.{reads_bad_checksum, reads_no_path, reads_bad_path, entry_reads}
use Rattle.bag_text.proofs.ManifestEntryLemmas.{At, at_same, same_path, itself}
use Rattle.bag_text.proofs.ManifestReadLemmas.{IsSomeEntry, one_path_a_line, IsOutcome, manifest_outcome}
use Rattle.bag_text.proofs.CaseLemmas.{by_Bool, by_Option, by_Result}

-- a text spells a path exactly where it is decoded to it
pub spells_iff : (v : Version) (s p : List ℕ) → Spells v s p ↔ (decode v s ≡ p)
spells_iff v s p = (spelled_is_decoded v s p, λ e. subst (λ (q : List ℕ). Spells v s q) e (spells_decoded v s))

-- ---- a line at fault

-- what is wrong with a line that is reached: it can't be read, or lists a path again
data RowAt (v : Version) (a : Algorithm) (text : List ℕ) (number : ℕ) (line : List ℕ) (fault : LineFault) : Type 0 where
  unread : entry_of v a number line ≡ Err fault → RowAt v a text number line fault
  listed_again : (first : ℕ) (path one two : List ℕ) → fault ≡ ListedTwice number → first < number → ListsOn (as_manifest v a text) first path one → IsEntry v a line path two → RowAt v a text number line fault

record LineRow (v : Version) (a : Algorithm) (text : List ℕ) (fault : LineFault) : Type 0 where
  number : ℕ
  line : List ℕ
  reached : IsReached v a text number line
  row : RowAt v a text number line fault

-- where no checksum stands, none is read
no_checksum : (a : Algorithm) (digits : List ℕ) → is_ok (decode_sized digits (size_of a)) ≡ false → checksum_in a digits ≡ None
no_checksum a digits e =
    by_Result (decode_sized digits (size_of a)) (λ bytes is. let wrong = rw is at e in absurd cc) (λ f is. rw is refl)

-- where a checksum stands, one is read
a_checksum : (a : Algorithm) (digits : List ℕ) → is_ok (decode_sized digits (size_of a)) ≡ true → (c : Checksum) × (checksum_in a digits ≡ Some c)
a_checksum a digits e =
    by_Result (decode_sized digits (size_of a)) (λ bytes is. (checksum_of a bytes, rw is refl)) (λ f is. let wrong = rw is at e in absurd cc)

-- what spells no good path is not read
no_path_of : (v : Version) (spelled : List ℕ) → (begins_with 42 spelled ≡ true) ⊎ ((path : List ℕ) × Spells v spelled path × (GoodPath path → ⊥)) → path_spelled v spelled ≡ None
no_path_of v spelled (inl star) = rw star refl
no_path_of v spelled (inr (path, spells, bad)) =
    let none = false_from_ne_true (is_good (decode v spelled)) (λ g. bad (good_read path (subst (λ (p : List ℕ). is_good p ≡ true) (spelled_is_decoded v spelled path spells) g))) in
    by_Bool (begins_with 42 spelled) (λ star. rw star refl) (λ star. rw (star, none) refl)

-- a fault of the table is of a line that is reached
as_row : (v : Version) (a : Algorithm) (text : List ℕ) (fault : LineFault) → is_utf8 text ≡ true → has_mark text ≡ false → ManifestFault v a text fault → LineRow v a text fault
as_row v a text NotUtf8 utf8 unmarked is = absurd (true≢false (sym utf8 ∙ is))
as_row v a text ByteOrderMark utf8 unmarked is = absurd (false≢true (sym unmarked ∙ is.1))
as_row v a text (BadChecksum n) utf8 unmarked (line, reached, bad) =
    record { number = n; line = line; reached = reached; row = unread (reads_bad_checksum v a n line (no_checksum a (sum_text line) bad)) }
as_row v a text (NoPath n) utf8 unmarked (line, reached, sum, none) =
    let c = a_checksum a (sum_text line) sum in
    record { number = n; line = line; reached = reached; row = unread (reads_no_path v a n line c.0 c.1 none) }
as_row v a text (BadPath n) utf8 unmarked (line, reached, sum, some, bad) =
    let c = a_checksum a (sum_text line) sum in
    record { number = n; line = line; reached = reached; row = unread (reads_bad_path v a n line c.0 c.1 some (no_path_of v (path_text line) bad)) }
as_row v a text (ListedTwice n) utf8 unmarked (line, reached, (first, path, one, two, lt, lists, entry)) =
    record { number = n; line = line; reached = reached; row = listed_again first path one two refl lt lists entry }
as_row v a text Memory utf8 unmarked is = absurd is

-- a line at fault is neither blanks nor does it list a path of its own
no_row : (v : Version) (a : Algorithm) (text : List ℕ) (fault : LineFault) (row : LineRow v a text fault) → AreBlanks row.line ⊎ IsSomeEntry v a row.line
    → ((first : ℕ) (path one two : List ℕ) → first < row.number → ListsOn (as_manifest v a text) first path one → ListsOn (as_manifest v a text) row.number path two → ⊥) → ⊥
no_row v a text fault row (inl blank) once = true≢false (sym blank ∙ row.reached.full)
no_row v a text fault row (inr (p, sum, is)) once = of_row row.row
  where
    of_row : RowAt v a text row.number row.line fault → ⊥
    of_row (unread e) = never_both _ fault _ (entry_reads v a row.number row.line p sum is) e
    of_row (listed_again first path one two e lt lists entry) = once first path one two lt lists (row.line, row.reached.is, entry)

-- a line has one fault
same_row : (v : Version) (a : Algorithm) (text : List ℕ) (number : ℕ) (line : List ℕ) (f g : LineFault) → RowAt v a text number line f → RowAt v a text number line g → f ≡ g
same_row v a text number line f g (unread x) (unread y) = same_err f g (entry_of v a number line) x y
same_row v a text number line f g (unread x) (listed_again first path one two is lt lists entry) = absurd (never_both _ f _ (entry_reads v a number line path two entry) x)
same_row v a text number line f g (listed_again first path one two is lt lists entry) (unread y) = absurd (never_both _ g _ (entry_reads v a number line path two entry) y)
same_row v a text number line f g (listed_again first path one two is lt lists entry) (listed_again first2 path2 one2 two2 is2 lt2 lists2 entry2) = is ∙ sym is2

-- a text has one first fault
two_rows : (v : Version) (a : Algorithm) (text : List ℕ) (f g : LineFault) → LineRow v a text f → LineRow v a text g → f ≡ g
two_rows v a text f g x y = elim (cases_order x.number y.number) [
  | inl same ↦
      let line : x.line ≡ y.line = at_same (lines text) y.number x.line y.line (subst (λ (n : ℕ). LineIs text n x.line) same x.reached.is) y.reached.is in
      same_row v a text y.number y.line f g (subst (λ (l : List ℕ). RowAt v a text y.number l f) line (subst (λ (n : ℕ). RowAt v a text n x.line f) same x.row)) y.row
  | inr other ↦ elim other [ inl lt ↦ absurd (earlier f g x y lt) | inr lt ↦ absurd (earlier g f y x lt) ]
]
  where
    earlier : (f g : LineFault) (x : LineRow v a text f) (y : LineRow v a text g) → x.number < y.number → ⊥
    earlier f g x y lt = no_row v a text f x (y.reached.before.each x.number x.line lt x.reached.is) (λ first path one two before l m. y.reached.before.once first x.number path one two before lt l m)

-- ---- the text

-- what is read is a manifest
pub read_is_manifest : (v : Version) (a : Algorithm) (text : List ℕ) (es : Entries) → manifest_of v a text ≡ Ok es → IsManifest v a text
unfolding IsOutcome
read_is_manifest v a text es e =
    let outcome = subst (λ (r : Result Entries LineFault). IsOutcome v a text r) e (manifest_outcome v a text) in
    record { utf8 = outcome.0; unmarked = outcome.1; each = outcome.2.each; once = outcome.2.once }

-- a refusal is the first fault
pub refused_is_fault : (v : Version) (a : Algorithm) (text : List ℕ) (fault : LineFault) → manifest_of v a text ≡ Err fault → ManifestFault v a text fault
unfolding IsOutcome
refused_is_fault v a text fault e = subst (λ (r : Result Entries LineFault). IsOutcome v a text r) e (manifest_outcome v a text)

-- a manifest is read
pub manifest_is_read : (v : Version) (a : Algorithm) (text : List ℕ) → IsManifest v a text → (es : Entries) × (manifest_of v a text ≡ Ok es)
manifest_is_read v a text is = by_Result (manifest_of v a text)
    (λ es e. (es, e))
    (λ fault e.
    let row = as_row v a text fault is.utf8 is.unmarked (refused_is_fault v a text fault e) in
    absurd (no_row v a text fault row (is.each row.number row.line row.reached.is) (λ first path one two lt l m. is.once first row.number path one two lt l m)))

-- a line at fault is refused so
row_is_refused : (v : Version) (a : Algorithm) (text : List ℕ) (fault : LineFault) → LineRow v a text fault → manifest_of v a text ≡ Err fault
row_is_refused v a text fault row = by_Result (manifest_of v a text)
    (λ es e.
    let is = read_is_manifest v a text es e in
    absurd (no_row v a text fault row (is.each row.number row.line row.reached.is) (λ first path one two lt l m. is.once first row.number path one two lt l m)))
    (λ other e.
    let same : other ≡ fault = two_rows v a text other fault (as_row v a text other row.reached.utf8 row.reached.unmarked (refused_is_fault v a text other e)) row in
    e ∙ ap (λ (f : LineFault). Err f) same)

-- the first fault is the refusal
pub fault_is_refused : (v : Version) (a : Algorithm) (text : List ℕ) (fault : LineFault) → ManifestFault v a text fault → manifest_of v a text ≡ Err fault
unfolding manifest_of
fault_is_refused v a text NotUtf8 is = rw is refl
fault_is_refused v a text ByteOrderMark is = rw (is.0, is.1) refl
fault_is_refused v a text Memory is = absurd is
fault_is_refused v a text fault is = row_is_refused v a text fault (as_row v a text fault is.1.utf8 is.1.unmarked is)

-- ---- the entries

-- each entry is what its line lists
pub entry_is_listed : (v : Version) (a : Algorithm) (text : List ℕ) (es : Entries) (path : List ℕ) (entry : Entry) → manifest_of v a text ≡ Ok es → Contains es (path, entry) → LineLists (as_manifest v a text) entry.line path entry.checksum
unfolding IsOutcome
entry_is_listed v a text es path entry e has =
    let outcome = subst (λ (r : Result Entries LineFault). IsOutcome v a text r) e (manifest_outcome v a text) in
    let read = outcome.2.read path entry (contains_has es (path, entry) has) in
    (read.2.bytes, read.2.checksum, (read.0, read.1, read.2.entry_is))

-- each entry is of a path for which something was decoded exactly where a coded triple stands in its line
pub entry_is_decoded : (v : Version) (a : Algorithm) (text : List ℕ) (es : Entries) (path : List ℕ) (entry : Entry) (line : List ℕ) → manifest_of v a text ≡ Ok es → Contains es (path, entry) → LineIs text entry.line line → entry.is_decoded ≡ has_coded v (path_text line)
unfolding IsOutcome
entry_is_decoded v a text es path entry line e has at =
    let outcome = subst (λ (r : Result Entries LineFault). IsOutcome v a text r) e (manifest_outcome v a text) in
    let read = outcome.2.read path entry (contains_has es (path, entry) has) in
    read.2.is_decoded ∙ ap (λ (l : List ℕ). has_coded v (path_text l)) (at_same (lines text) entry.line read.0 line read.1 at)

-- some entry has this path, checksum and line
abbrev pub HasRead : Entries → List ℕ → Checksum → ℕ → Type 0
HasRead es path checksum line = (is_decoded : Bool) × Contains es (path, record { checksum = checksum; line = line; is_decoded = is_decoded })

-- what a line lists is an entry
pub listed_is_entry : (v : Version) (a : Algorithm) (text : List ℕ) (es : Entries) (number : ℕ) (path : List ℕ) (checksum : Checksum) → manifest_of v a text ≡ Ok es → LineLists (as_manifest v a text) number path checksum → HasRead es path checksum number
unfolding IsOutcome
listed_is_entry v a text es number path checksum e (bytes, is, (line, at, entry)) =
    let outcome = subst (λ (r : Result Entries LineFault). IsOutcome v a text r) e (manifest_outcome v a text) in
    let found = outcome.2.listed number path bytes (line, at, entry) in
    let read = outcome.2.read path found.0 found.1 in
    let here : At (lines text) number read.0 = subst (λ (n : ℕ). At (lines text) n read.0) found.2 read.1 in
    let line_is : read.0 ≡ line = at_same (lines text) number read.0 line here at in
    let same : read.2.bytes ≡ bytes = (one_path_a_line v a line path path read.2.bytes bytes (subst (λ (l : List ℕ). IsEntry v a l path read.2.bytes) line_is read.2.entry_is) entry).1 in
    let sum : found.0.checksum ≡ checksum = read.2.checksum ∙ ap (checksum_of a) same ∙ sym is in (
      found.0.is_decoded,
      subst (λ (c : Checksum). Contains es (path, record { checksum = c; line = number; is_decoded = found.0.is_decoded })) sum
          (subst (λ (n : ℕ). Contains es (path, record { checksum = found.0.checksum; line = n; is_decoded = found.0.is_decoded })) found.2 (has_contains es (path, found.0) found.1)),
    )

-- an entry of a path, with its checksum and its line, is what the line lists
pub entries_iff : (v : Version) (a : Algorithm) (text : List ℕ) (es : Entries) (path : List ℕ) (checksum : Checksum) (number : ℕ) → manifest_of v a text ≡ Ok es → HasRead es path checksum number ↔ LineLists (as_manifest v a text) number path checksum
entries_iff v a text es path checksum number e =
    (λ h. entry_is_listed v a text es path (record { checksum = checksum; line = number; is_decoded = h.0 }) e h.1, λ l. listed_is_entry v a text es number path checksum e l)

-- the paths ascend
pub entries_ascend : (v : Version) (a : Algorithm) (text : List ℕ) (es : Entries) → manifest_of v a text ≡ Ok es → AscendingPaths (map (λ e. e.0) es)
unfolding IsOutcome
entries_ascend v a text es e = (subst (λ (r : Result Entries LineFault). IsOutcome v a text r) e (manifest_outcome v a text)).2.ascending

-- ---- some line of the text

-- some line has a number
lists_on : (v : Version) (a : Algorithm) (text path checksum : List ℕ) → Lists v a text path checksum → (number : ℕ) × ListsOn (as_manifest v a text) number path checksum
lists_on v a text path checksum (line, (k, within, is), entry) =
    let n : suc k - 1 ≡ k = omega arith in
    (suc k, (line, (omega arith, rw n (slice_get_read (lines text) (length (lines text)) k line refl within (sym is))), entry))

-- the line of a number is some line
on_lists : (v : Version) (a : Algorithm) (text path checksum : List ℕ) (number : ℕ) → ListsOn (as_manifest v a text) number path checksum → Lists v a text path checksum
on_lists v a text path checksum number (line, at, entry) =
    (line, (number - 1, slice_get_within (lines text) (number - 1) line at.1, get_or_from_slice_get (lines text) (number - 1) line line at.1), entry)

-- a checksum has one list of bytes
one_checksum : (a : Algorithm) (b c : List ℕ) → checksum_of a b ≡ checksum_of a c → b ≡ c
one_checksum Sha256 b c e = cc
one_checksum Sha512 b c e = cc

-- some entry has a path and checksum
abbrev pub HasSum : Entries → List ℕ → Checksum → Type 0
HasSum es path checksum = (entry : Entry) × Contains es (path, entry) × (entry.checksum ≡ checksum)

-- a text lists a path with a checksum exactly where some entry has both
pub lists_iff : (v : Version) (a : Algorithm) (text : List ℕ) (es : Entries) (path checksum : List ℕ) → manifest_of v a text ≡ Ok es → Lists v a text path checksum ↔ HasSum es path (checksum_of a checksum)
lists_iff v a text es path checksum e = (there, back)
  where
    there : Lists v a text path checksum → HasSum es path (checksum_of a checksum)
    there l =
        let on = lists_on v a text path checksum l in
        let found = listed_is_entry v a text es on.0 path (checksum_of a checksum) e (checksum, refl, on.1) in
        (record { checksum = checksum_of a checksum; line = on.0; is_decoded = found.0 }, found.1, refl)

    back : HasSum es path (checksum_of a checksum) → Lists v a text path checksum
    back (entry, has, is) =
        let l = entry_is_listed v a text es path entry e has in
        subst (λ (c : List ℕ). Lists v a text path c) (one_checksum a l.0 checksum (sym l.1 ∙ is)) (on_lists v a text path l.0 entry.line l.2)

-- ---- what reading answers, unless memory runs out

-- a fault is of memory, or what reading gives
fails : (fault : LineFault) (read : Result Entries LineFault) → FailsAs (named_line_fault fault) read → (fault ≡ Memory) ⊎ (read ≡ Err fault)
fails Memory read e = inl refl
fails _ read e = inr e

-- an entry of a manifest is one of those that were read
contains_listed : (m : Manifest) (key : CowStr Global) (listing : Listing) → Contains m.entries.entries (key, listing) → Contains (entries_in m) (entry_in (key, listing))
contains_listed m key listing h = has_contains (entries_in m) (entry_in (key, listing)) (has_map entry_in m.entries.entries (key, listing) (contains_has m.entries.entries (key, listing) h))

-- an entry of a manifest was read
entry_has_read : (m : Manifest) (path : List ℕ) (checksum : Checksum) (line : ℕ) → HasEntry m path checksum line → HasRead (entries_in m) path checksum line
entry_has_read m path checksum line (key, has, is) =
    (is_owned key, subst (λ (p : List ℕ). Contains (entries_in m) (p, record { checksum = checksum; line = line; is_decoded = is_owned key })) is (contains_listed m key (record { checksum = checksum; line = line }) has))

-- what was read is an entry of the manifest
read_has_entry : (m : Manifest) (path : List ℕ) (checksum : Checksum) (line : ℕ) → HasRead (entries_in m) path checksum line → HasEntry m path checksum line
read_has_entry m path checksum line (is_decoded, has) =
    let found = map_has entry_in m.entries.entries (path, record { checksum = checksum; line = line; is_decoded = is_decoded }) (contains_has (entries_in m) (path, record { checksum = checksum; line = line; is_decoded = is_decoded }) has) in
    let sum : found.0.1.checksum ≡ checksum = ap (λ (e : List ℕ × Entry). e.1.checksum) found.2 in
    let number : found.0.1.line ≡ line = ap (λ (e : List ℕ × Entry). e.1.line) found.2 in
    let here : Contains m.entries.entries (found.0.0, record { checksum = found.0.1.checksum; line = found.0.1.line }) = has_contains m.entries.entries found.0 found.1 in (
      found.0.0,
      subst (λ (c : Checksum). Contains m.entries.entries (found.0.0, record { checksum = c; line = line })) sum
          (subst (λ (n : ℕ). Contains m.entries.entries (found.0.0, record { checksum = found.0.1.checksum; line = n })) number here),
      ap (λ (e : List ℕ × Entry). e.0) found.2,
    )

-- the paths of the map are those that were read
paths_same : (xs : List (CowStr Global × Listing)) → map (λ e. e.0) (map entry_in xs) ≡ map (λ e. cow_str_bytes e.0) xs
paths_same [] = refl
paths_same (x ∷ xs) = ap (λ (ps : List (List ℕ)). cow_str_bytes x.0 ∷ ps) (paths_same xs)

-- what is not owned is borrowed
borrowed_iff : (path : CowStr Global) (coded : Bool) → is_owned path ≡ coded → IsBorrowedStr path ↔ (coded ≡ false)
borrowed_iff (text.Borrowed p) coded e = (λ _. sym e, λ _. tt)
borrowed_iff (text.Owned p) coded e = (λ h. absurd h, λ none. true≢false (e ∙ none))

module _ (v : Version) (a : Algorithm) (t : List ℕ) where
  -- what is read is a manifest
  pub says_manifest : (r : Result Manifest LineFault) → Gives named_line_fault entries_in r (manifest_of v a t) → IfOk r (λ m. IsManifest v a t)
  says_manifest (Ok m) g = read_is_manifest v a t (entries_in m) g
  says_manifest (Err fault) g = tt

  -- a manifest is read, unless memory runs out
  pub says_reads : (r : Result Manifest LineFault) → Gives named_line_fault entries_in r (manifest_of v a t) → IsManifest v a t → IfErr r (λ fault. fault ≡ Memory)
  says_reads (Ok m) g is = tt
  says_reads (Err fault) g is = elim (fails fault (manifest_of v a t) g) [
    | inl e ↦ e
    | inr e ↦ let read = manifest_is_read v a t is in absurd (never_both read.0 fault (manifest_of v a t) read.1 e)
  ]

  -- the entries are what the lines list
  pub says_lists : (r : Result Manifest LineFault) → Gives named_line_fault entries_in r (manifest_of v a t) → IfOk r (λ m. (path : List ℕ) (checksum : Checksum) (line : ℕ) → HasEntry m path checksum line ↔ LineLists (as_manifest v a t) line path checksum)
  says_lists (Ok m) g = λ path checksum line.
      let both = entries_iff v a t (entries_in m) path checksum line g in
      (λ h. both.0 (entry_has_read m path checksum line h), λ l. read_has_entry m path checksum line (both.1 l))
  says_lists (Err fault) g = tt

  -- the paths ascend
  pub says_ascending : (r : Result Manifest LineFault) → Gives named_line_fault entries_in r (manifest_of v a t) → IfOk r (λ m. AscendingPaths (paths_of m))
  says_ascending (Ok m) g = subst AscendingPaths (paths_same m.entries.entries) (entries_ascend v a t (entries_in m) g)
  says_ascending (Err fault) g = tt

  -- a path is borrowed where nothing is decoded
  pub says_borrowed : (r : Result Manifest LineFault) → Gives named_line_fault entries_in r (manifest_of v a t) → IfOk r (λ m. (path : CowStr Global) (listing : Listing) (line : List ℕ) → Contains m.entries.entries (path, listing) → LineIs t listing.line line → IsBorrowedStr path ↔ (has_coded v (path_text line) ≡ false))
  says_borrowed (Ok m) g = λ path listing line has at.
      borrowed_iff path (has_coded v (path_text line)) (entry_is_decoded v a t (entries_in m) (cow_str_bytes path) (entry_in (path, listing)).1 line g (contains_listed m path listing has) at)
  says_borrowed (Err fault) g = tt

  -- a refusal is the first fault, unless memory runs out
  pub says_refused : (r : Result Manifest LineFault) → Gives named_line_fault entries_in r (manifest_of v a t) → IfErr r (λ fault. (fault ≡ Memory) ⊎ ManifestFault v a t fault)
  says_refused (Ok m) g = tt
  says_refused (Err fault) g = elim (fails fault (manifest_of v a t) g) [ inl e ↦ inl e | inr e ↦ inr (refused_is_fault v a t fault e) ]

  -- the first fault is the answer, unless memory runs out
  pub says_fault : (r : Result Manifest LineFault) → Gives named_line_fault entries_in r (manifest_of v a t) → (fault : LineFault) → ManifestFault v a t fault → (r ≡ Err fault) ⊎ (r ≡ Err Memory)
  says_fault (Ok m) g fault is = absurd (never_both (entries_in m) fault (manifest_of v a t) g (fault_is_refused v a t fault is))
  says_fault (Err other) g fault is = elim (fails other (manifest_of v a t) g) [
    | inl e ↦ inr (ap (λ (f : LineFault). Err f) e)
    | inr e ↦ inl (ap (λ (f : LineFault). Err f) (same_err other fault (manifest_of v a t) e (fault_is_refused v a t fault is)))
  ]

-- ---- looking a path up in a manifest

-- the listing at a path, among some entries
abbrev found : List ℕ → List (CowStr Global × Listing) → Option Listing
found path xs = lookup (is_at (λ key. slice_cmp nat_cmp path (cow_str_bytes key))) xs

-- an entry of a path, among some
abbrev HasKey : List ℕ → List (CowStr Global × Listing) → Listing → Type 0
HasKey path xs listing = (key : CowStr Global) × Has xs (key, listing) × (cow_str_bytes key ≡ path)

-- what is found is an entry
found_has : (path : List ℕ) (xs : List (CowStr Global × Listing)) (listing : Listing) → found path xs ≡ Some listing → HasKey path xs listing
found_has path [] listing e = absurd cc
found_has path (x ∷ xs) listing e = by_Bool (is_eq (slice_cmp nat_cmp path (cow_str_bytes x.0)))
    (λ is. (x.0, inl (ap (λ (l : Listing). (x.0, l)) (same_Some x.1 listing (rw is at e))), sym (same_path path (cow_str_bytes x.0) is)))
    (λ is. let rest = found_has path xs listing (rw is at e) in (rest.0, inr rest.1, rest.2))

-- an entry is found
has_found : (path : List ℕ) (xs : List (CowStr Global × Listing)) (key : CowStr Global) (listing : Listing) → Has xs (key, listing) → cow_str_bytes key ≡ path → is_some (found path xs) ≡ true
has_found path [] key listing h is = absurd h
has_found path (x ∷ xs) key listing (inl e) is =
    let same : is_eq (slice_cmp nat_cmp path (cow_str_bytes x.0)) ≡ true = subst (λ (q : List ℕ). is_eq (slice_cmp nat_cmp path q) ≡ true) (sym (ap (λ (y : CowStr Global × Listing). cow_str_bytes y.0) e ∙ is)) (itself path) in
    rw same refl
has_found path (x ∷ xs) key listing (inr h) is =
    elim (cases_Bool (is_eq (slice_cmp nat_cmp path (cow_str_bytes x.0)))) [ inl e ↦ rw e refl | inr e ↦ rw e (has_found path xs key listing h is) ]

-- what a manifest says of a path is an entry of it
pub listing_is_entry : (m : Manifest) (path : List ℕ) (r : Option Listing) → r ≡ listing_at path m → IfSome r (λ listing. HasEntry m path listing.checksum listing.line)
listing_is_entry m path None e = tt
listing_is_entry m path (Some listing) e =
    let has = found_has path m.entries.entries listing (sym e) in
    (has.0, has_contains m.entries.entries (has.0, listing) has.1, has.2)

-- a manifest says something of a path exactly where it has an entry of it
pub listing_iff : (m : Manifest) (path : List ℕ) → (is_some (listing_at path m) ≡ true) ↔ HasPath m path
listing_iff m path = (here, there)
  where
    here : is_some (listing_at path m) ≡ true → HasPath m path
    here some = by_Option (listing_at path m)
        (λ e. absurd (false≢true (sym (ap is_some e) ∙ some)))
        (λ listing e. (listing.checksum, listing.line, listing_is_entry m path (Some listing) (sym e)))

    there : HasPath m path → is_some (listing_at path m) ≡ true
    there (checksum, line, entry) = has_found path m.entries.entries entry.0 (record { checksum = checksum; line = line }) (contains_has m.entries.entries (entry.0, record { checksum = checksum; line = line }) entry.1) entry.2

-- the same, of an answer
pub says_path : (m : Manifest) (path : List ℕ) (b : Bool) → b ≡ is_some (listing_at path m) → (b ≡ true) ↔ HasPath m path
says_path m path b e = let both = listing_iff m path in (λ h. both.0 (sym e ∙ h), λ h. e ∙ both.1 h)
