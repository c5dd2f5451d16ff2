-- Where no checksum is wrong, each SHA-256 that a manifest lists of a file is that of its content.
use Rattle.bag_check.proofs.FirstLemmas.{inl, inr, cases_Bool, not-false, ◌≡◌, ℕ, zero, suc, ◌<◌, Bool, false, not, List, [], ◌∷◌, map, length, slice_index_or, Bor, refl, sym, ap, subst, ◌∙◌, arith, Option, Some, None, Result, Ok, Contains, option_map, find, bytes_eq-Decides, ◌>>=◌, File, IsBag, content_at, files_of, Entries, Entry, HasEntry, entries_in, entry_in, is_owned, Has, contains_has, has_contains, has_map, bind_ok, Rule, ChecksumWrong, Fault, Listed, breaks_at, first_in, first_breach, is_wrong, obeys, obeys_contents, obeys_info, obeyed_by, bytes_eq, sha256, Manifest, AreRightOf, ListsSha256, digests_of, content_there}
use Rattle.bag_text.specs.declared.checksum.Checksum.TheVariants.{Sha256}
use Rattle.bag_text.proofs.CaseLemmas.{by_Option}

-- ---- no checksum is wrong where the contents are kept

no_place : (rule : Rule) (place : Option (List ℕ × List ℕ)) (next : Result (Unit {0}) Fault) (done : Unit {0}) → (obeyed_by rule place >>= λ _. next) ≡ Ok done → place ≡ None
no_place rule None next done e = refl
no_place rule (Some place) next done e = absurd cc

pub fixity_kept : (bag : List File) (ls : List Listed) (done : Unit {0}) → obeys_contents bag ls ≡ Ok done → first_breach bag ChecksumWrong ls ≡ None
unfolding obeys
fixity_kept bag ls done e =
    let parts = bind_ok (obeys_info bag) (λ _. obeys bag ls (ChecksumWrong ∷ [])) done e in
    no_place ChecksumWrong (first_breach bag ChecksumWrong ls) (Ok tt) done parts.2

-- ---- so none is in any manifest

in_each : (bag : List File) (rule : Rule) (ls : List Listed) → first_breach bag rule ls ≡ None → (l : Listed) → Has ls l → first_in bag rule l ≡ None
unfolding first_breach
in_each bag rule [] none l h = absurd h
in_each bag rule (k ∷ ls) none l h = by_Option (first_in bag rule k)
    (λ is. elim h [ inl same ↦ ap (first_in bag rule) (sym same) ∙ is | inr more ↦ in_each bag rule ls (rw is at none) l more ])
    (λ path is. let wrong = rw is at none in absurd cc)

fails_each : (test : List ℕ × Entry → Bool) (es : Entries) → option_map (λ (e : List ℕ × Entry). e.0) (find test es) ≡ None → (x : List ℕ × Entry) → Has es x → test x ≡ false
fails_each test [] none x h = absurd h
fails_each test (y ∷ es) none x h = elim (cases_Bool (test y)) [
  | inl is ↦ let wrong = rw is at none in absurd cc
  | inr is ↦ elim h [ inl same ↦ ap test (sym same) ∙ is | inr more ↦ fails_each test es (rw is at none) x more ]
]

-- ---- a SHA-256 that isn't wrong

pub right_of : (bag : List File) → IsBag bag → (ls : List Listed) → first_breach bag ChecksumWrong ls ≡ None → (f : File) → Contains bag f → AreRightOf ls f
right_of bag is ls none f there l digest listed (entry, lists, is_digest) =
    let fine = fails_each (breaks_at bag ChecksumWrong) l.entries (in_each bag ChecksumWrong ls none l (contains_has ls l listed)) (f.path, entry) (contains_has l.entries (f.path, entry) lists) in
    let found : content_at bag f.path ≡ Some f.content = content_there bag is f.path f.content there in
    let right : not (bytes_eq (sha256 f.content) digest) ≡ false = (λ i. is_wrong (sym is_digest i) (sym found i)) ∙ fine in
    sym ((bytes_eq-Decides (sha256 f.content) digest).0 (not-false (bytes_eq (sha256 f.content) digest) right))

-- ---- what a manifest says of a path

pub lists_sha256 : (m : Manifest) (path digest : List ℕ) (line : ℕ) → HasEntry m path (Sha256 digest) line → ListsSha256 (entries_in m) path digest
lists_sha256 m path digest line (key, contains, at) =
    let entry : Entry = record { checksum = Sha256 digest; line = line; is_decoded = is_owned key } in
    let has = has_map entry_in m.entries.entries (key, record { checksum = Sha256 digest; line = line }) (contains_has m.entries.entries _ contains) in
    (entry, has_contains (entries_in m) (path, entry) (subst (λ p. Has (entries_in m) (p, entry)) at has), refl)

-- ---- the files of a bag

pub item_has : {A : Type 0} (xs : List A) (i : ℕ) (none : A) → i < length xs → Has xs (slice_index_or xs i none)
item_has [] i none low = absurd (omega arith)
item_has (x ∷ xs) zero none low = inl refl
item_has (x ∷ xs) (suc i) none low = inr (item_has xs i none (omega arith))

pub digests_are : (files : List (Bor (List ℕ) × Bor (List ℕ))) → map (λ (file : Bor (List ℕ) × Bor (List ℕ)). sha256 file.1.now) files ≡ digests_of (files_of files)
digests_are [] = refl
digests_are (file ∷ files) = ap (λ ds. sha256 file.1.now ∷ ds) (digests_are files)
