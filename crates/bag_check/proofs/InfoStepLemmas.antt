-- The step of judging that reads `bag-info.txt`: it names the first fault of that file, or none stands.
use Rattle.bag_check.proofs.FirstLemmas.{false_from_ne_true, inl, inr, not, eqb, true, or_cases, eqb-false, eqb-true, not-true, ne_eqb, or_right, true_from_ne_false, ◌≡◌, ℕ, ◌<◌, ◌≤◌, ◌⊎◌, Bool, false, cond, List, length, refl, sym, ap, subst, ◌∙◌, arith, Option, Some, Result, Ok, Err, is_some, nat_lt, Contains, ◌≢◌, list_any, false≢true, ltb-true, ltb-false, File, IsBag, content_at, Pair, SaysInfo, info_of, InfoFault, Version, info_said, info_fault, Holds, HasFile, info_path, DeclaresVersion, NamesCounts, oxums_of, payload_bytes, payload_files, InfoIsRight, Fault, InfoText, OxumForm, OxumTwice, OxumWrong, HasOxum, Applies, FirstFault, counts_of, are_others, oxums_obeyed, obeys_info, same_err, never_both, Has, contains_has, has_contains, any_has, none_has, one_content, content_found, no_content, at_13, at_14, at_15, at_16, Earlier, none_earlier, NoneBelow, none_more, named_first, one_info}
use Rattle.bag_check.proofs.CountsLemmas.{counts_is, counts_again}
use Rattle.bag_text.proofs.CaseLemmas.{by_Option, by_Result}

-- ---- a bag-info.txt that is read

-- the pairs of a bag's bag-info.txt
record SaysPairs (bag : List File) (pairs : List Pair) : Type 0 where
  text : List ℕ
  holds : Holds bag info_path text
  says : SaysInfo text pairs

-- it isn't refused
not_refused : (bag : List File) → IsBag bag → (pairs : List Pair) → SaysPairs bag pairs → (i : InfoFault) → Applies bag (InfoText i) → ⊥
not_refused bag is pairs read i (v, declares, (text, holds, fault)) =
    let same : read.text ≡ text = one_content bag is info_path read.text text read.holds holds in
    never_both pairs i (info_of text) (ap info_of (sym same) ∙ (info_said read.text pairs).1 read.says) ((info_fault text i).1 fault)

-- a bag says one list of pairs
one_list : (bag : List File) → IsBag bag → (pairs others : List Pair) → SaysPairs bag pairs → (text : List ℕ) → Holds bag info_path text → SaysInfo text others → others ≡ pairs
one_list bag is pairs others read text holds says =
    let same : text ≡ read.text = one_content bag is info_path text read.text holds read.holds in
    one_info read.text others pairs (subst (λ (t : List ℕ). SaysInfo t others) same says) read.says

-- each Payload-Oxum is one of these pairs
its_oxum : (bag : List File) → IsBag bag → (pairs : List Pair) → SaysPairs bag pairs → (value : List ℕ) → HasOxum bag value → Has (oxums_of pairs) value
its_oxum bag is pairs read value (text, others, holds, says, has) =
    contains_has (oxums_of pairs) value (subst (λ (ps : List Pair). Contains (oxums_of ps) value) (one_list bag is pairs others read text holds says) has)

-- one of these pairs is a Payload-Oxum
an_oxum : (bag : List File) (pairs : List Pair) → SaysPairs bag pairs → (value : List ℕ) → Has (oxums_of pairs) value → HasOxum bag value
an_oxum bag pairs read value h = (read.text, pairs, read.holds, read.says, has_contains (oxums_of pairs) value h)

-- ---- the three tests of the values

-- a value that names no counts
abbrev is_formless : List ℕ → Bool
is_formless value = not (is_some (counts_of value))

-- a value that names other counts than the payload's
abbrev is_other : List File → List ℕ → Bool
is_other bag value = are_others bag (counts_of value)

-- a value that names counts has its form
has_form : (value : List ℕ) (bytes files : ℕ) → NamesCounts value bytes files → is_formless value ≡ true → ⊥
has_form value bytes files names e = false≢true (sym (ap (λ (o : Option (ℕ × ℕ)). not (is_some o)) (counts_again value bytes files names)) ∙ e)

-- a value that names none hasn't
no_form : (value : List ℕ) → ((bytes files : ℕ) → NamesCounts value bytes files → ⊥) → is_formless value ≡ true
no_form value none =
    by_Option (counts_of value) (λ e. rw e refl) (λ counts e. absurd (none counts.0 counts.1 (counts_is value counts.0 counts.1 e)))

-- other counts than the payload's
abbrev Differ : List File → ℕ → ℕ → Type 0
Differ bag bytes files = (bytes ≢ payload_bytes bag) ⊎ (files ≢ payload_files bag)

-- counts that are said to differ do
differ_is : (bag : List File) (bytes files : ℕ) → are_others bag (Some (bytes, files)) ≡ true → Differ bag bytes files
differ_is bag bytes files e = elim (or_cases (not (eqb bytes (payload_bytes bag))) (not (eqb files (payload_files bag))) e) [
  | inl is ↦ inl (eqb-false bytes (payload_bytes bag) (not-true _ is))
  | inr is ↦ inr (eqb-false files (payload_files bag) (not-true _ is))
]

-- counts that differ are said to
differ_again : (bag : List File) (bytes files : ℕ) → Differ bag bytes files → are_others bag (Some (bytes, files)) ≡ true
differ_again bag bytes files (inl differ) = rw (ne_eqb bytes (payload_bytes bag) differ) refl
differ_again bag bytes files (inr differ) = rw (ne_eqb files (payload_files bag) differ) (or_right (not (eqb bytes (payload_bytes bag))) true refl)

-- counts that aren't said to differ are the payload's
same_counts : (bag : List File) (bytes files : ℕ) → (Differ bag bytes files → ⊥) → (bytes ≡ payload_bytes bag) × (files ≡ payload_files bag)
same_counts bag bytes files same =
    let first = true_from_ne_false (eqb bytes (payload_bytes bag)) (λ is. same (inl (eqb-false bytes (payload_bytes bag) is))) in
    let second = true_from_ne_false (eqb files (payload_files bag)) (λ is. same (inr (eqb-false files (payload_files bag) is))) in
    (eqb-true bytes (payload_bytes bag) first, eqb-true files (payload_files bag) second)

-- ---- no fault of bag-info.txt

-- none stands
record IsFree (bag : List File) : Type 0 where
  text : (i : InfoFault) → Applies bag (InfoText i) → ⊥
  form : Applies bag OxumForm → ⊥
  once : Applies bag OxumTwice → ⊥
  right : Applies bag OxumWrong → ⊥

-- none stands where there is no bag-info.txt
free_without : (bag : List File) → (HasFile bag info_path → ⊥) → IsFree bag
free_without bag none = record {
  text = λ i stands. none (stands.2.0, stands.2.1);
  form = λ stands. none (stands.2.1.0, stands.2.1.2);
  once = λ stands. none (stands.2.0, stands.2.2);
  right = λ stands. none (stands.2.3.0, stands.2.3.2);
}

-- where no value is found without form none is
form_kept : (bag : List File) → IsBag bag → (pairs : List Pair) → SaysPairs bag pairs → list_any is_formless (oxums_of pairs) ≡ false → Applies bag OxumForm → ⊥
form_kept bag is pairs read none (v, declares, (value, has, bad)) =
    none_has is_formless (oxums_of pairs) value none (its_oxum bag is pairs read value has) (no_form value bad)

-- where no two values are found there are none
once_kept : (bag : List File) → IsBag bag → (pairs : List Pair) → SaysPairs bag pairs → nat_lt 1 (length (oxums_of pairs)) ≡ false → Applies bag OxumTwice → ⊥
once_kept bag is pairs read none (v, declares, (text, others, holds, says, twice)) =
    let more : 1 < length (oxums_of pairs) = subst (λ (ps : List Pair). 1 < length (oxums_of ps)) (one_list bag is pairs others read text holds says) twice in
    let few : length (oxums_of pairs) ≤ 1 = ltb-false 1 (length (oxums_of pairs)) none in
    absurd (omega (arith, more, few))

-- where no value is found that names other counts none does
right_kept : (bag : List File) → IsBag bag → (pairs : List Pair) → SaysPairs bag pairs → list_any (is_other bag) (oxums_of pairs) ≡ false → Applies bag OxumWrong → ⊥
right_kept bag is pairs read none (v, declares, (value, bytes, files, has, names, differ)) =
    none_has (is_other bag) (oxums_of pairs) value none (its_oxum bag is pairs read value has) (ap (are_others bag) (counts_again value bytes files names) ∙ differ_again bag bytes files differ)

-- what follows from the three tests
abbrev oxum_steps : Bool → Bool → Bool → Result (Unit {0}) Fault
oxum_steps x y z = cond x (Err OxumForm) (cond y (Err OxumTwice) (cond z (Err OxumWrong) (Ok tt)))

-- where the values are found right no fault stands
values_free : (bag : List File) → IsBag bag → (pairs : List Pair) → SaysPairs bag pairs → (done : Unit {0}) → oxums_obeyed bag (oxums_of pairs) ≡ Ok done → IsFree bag
values_free bag is pairs read done e = by_tests (list_any is_formless (oxums_of pairs)) (nat_lt 1 (length (oxums_of pairs))) (list_any (is_other bag) (oxums_of pairs)) refl refl refl e
  where
    by_tests : (x y z : Bool) → list_any is_formless (oxums_of pairs) ≡ x → nat_lt 1 (length (oxums_of pairs)) ≡ y → list_any (is_other bag) (oxums_of pairs) ≡ z → oxum_steps x y z ≡ Ok done → IsFree bag
    by_tests false false false form once right e = record {
      text = not_refused bag is pairs read;
      form = form_kept bag is pairs read form;
      once = once_kept bag is pairs read once;
      right = right_kept bag is pairs read right;
    }
    by_tests _ _ _ form once right e = absurd cc

-- the pairs that are read of a bag's bag-info.txt
says_pairs : (bag : List File) (text : List ℕ) (pairs : List Pair) → content_at bag info_path ≡ Some text → info_of text ≡ Ok pairs → SaysPairs bag pairs
says_pairs bag text pairs is read = record { text = text; holds = content_found bag info_path text is; says = (info_said text pairs).0 read }

-- where judging finds no fault of bag-info.txt none stands
info_free : (bag : List File) → IsBag bag → (done : Unit {0}) → obeys_info bag ≡ Ok done → IsFree bag
info_free bag is done e = by_Option (content_at bag info_path)
    (λ found. free_without bag (no_content bag info_path found))
    (λ text found. by_Result (info_of text)
    (λ pairs read. values_free bag is pairs (says_pairs bag text pairs found read) done (rw (found, read) at e))
    (λ i read. let wrong = rw (found, read) at e in absurd cc))

-- ---- the first fault of bag-info.txt

-- below each number, as far as the lower ones don't stand
below_14 : (bag : List File) → NoneBelow bag 13 → ((i : InfoFault) → Applies bag (InfoText i) → ⊥) → NoneBelow bag 14
below_14 bag below none = none_more bag 13 14 refl below (λ g n s. at_13 (λ x. Applies bag x → ⊥) none g n s)

below_15 : (bag : List File) → NoneBelow bag 14 → (Applies bag OxumForm → ⊥) → NoneBelow bag 15
below_15 bag below none = none_more bag 14 15 refl below (λ g n s. at_14 (λ x. Applies bag x → ⊥) none g n s)

below_16 : (bag : List File) → NoneBelow bag 15 → (Applies bag OxumTwice → ⊥) → NoneBelow bag 16
below_16 bag below none = none_more bag 15 16 refl below (λ g n s. at_15 (λ x. Applies bag x → ⊥) none g n s)

-- where judging finds no fault of bag-info.txt none below 17 stands
pub info_ok : (bag : List File) → IsBag bag → NoneBelow bag 13 → (done : Unit {0}) → obeys_info bag ≡ Ok done → NoneBelow bag 17
info_ok bag is below done e =
    let free = info_free bag is done e in
    none_more bag 16 17 refl (below_16 bag (below_15 bag (below_14 bag below free.text) free.form) free.once) (λ g n s. at_16 (λ x. Applies bag x → ⊥) free.right g n s)

-- each of the four comes first where none of a lower number stands
text_first : (bag : List File) → NoneBelow bag 13 → (i : InfoFault) → Applies bag (InfoText i) → FirstFault bag (InfoText i)
text_first bag below i stands = named_first bag (InfoText i) below (record { stands = stands; first = λ g n s. at_13 (λ x. Earlier x (InfoText i) → ⊥) (λ other. none_earlier) g n })

form_first : (bag : List File) → NoneBelow bag 14 → Applies bag OxumForm → FirstFault bag OxumForm
form_first bag below stands = named_first bag OxumForm below (record { stands = stands; first = λ g n s. at_14 (λ x. Earlier x OxumForm → ⊥) none_earlier g n })

twice_first : (bag : List File) → NoneBelow bag 15 → Applies bag OxumTwice → FirstFault bag OxumTwice
twice_first bag below stands = named_first bag OxumTwice below (record { stands = stands; first = λ g n s. at_15 (λ x. Earlier x OxumTwice → ⊥) none_earlier g n })

wrong_first : (bag : List File) → NoneBelow bag 16 → Applies bag OxumWrong → FirstFault bag OxumWrong
wrong_first bag below stands = named_first bag OxumWrong below (record { stands = stands; first = λ g n s. at_16 (λ x. Earlier x OxumWrong → ⊥) none_earlier g n })

-- a value that is found without form is one
form_stands : (bag : List File) (v : Version) → DeclaresVersion bag v → (pairs : List Pair) → SaysPairs bag pairs → list_any is_formless (oxums_of pairs) ≡ true → Applies bag OxumForm
form_stands bag v declares pairs read e =
    let found = any_has is_formless (oxums_of pairs) e in
    (v, declares, (found.0, an_oxum bag pairs read found.0 found.1, λ bytes files names. has_form found.0 bytes files names found.2))

-- two values that are found are there
twice_stands : (bag : List File) (v : Version) → DeclaresVersion bag v → (pairs : List Pair) → SaysPairs bag pairs → nat_lt 1 (length (oxums_of pairs)) ≡ true → Applies bag OxumTwice
twice_stands bag v declares pairs read e = (v, declares, (read.text, pairs, read.holds, read.says, ltb-true 1 (length (oxums_of pairs)) e))

-- a value that is found to name other counts does
wrong_stands : (bag : List File) (v : Version) → DeclaresVersion bag v → (pairs : List Pair) → SaysPairs bag pairs → list_any (is_other bag) (oxums_of pairs) ≡ true → Applies bag OxumWrong
wrong_stands bag v declares pairs read e =
    let found = any_has (is_other bag) (oxums_of pairs) e in
    let value = found.0 in
    by_Option (counts_of value)
    (λ is. let wrong = rw is at found.2 in absurd cc)
    (λ counts is. (v, declares, (value, counts.0, counts.1, an_oxum bag pairs read value found.1, counts_is value counts.0 counts.1 is, differ_is bag counts.0 counts.1 (rw is at found.2))))

-- the fault of the values that is named comes first
values_err : (bag : List File) → IsBag bag → (v : Version) → DeclaresVersion bag v → (pairs : List Pair) → SaysPairs bag pairs → NoneBelow bag 14 → (f : Fault) → oxums_obeyed bag (oxums_of pairs) ≡ Err f → FirstFault bag f
values_err bag is v declares pairs read below f e = by_tests (list_any is_formless (oxums_of pairs)) (nat_lt 1 (length (oxums_of pairs))) (list_any (is_other bag) (oxums_of pairs)) refl refl refl e
  where
    by_tests : (x y z : Bool) → list_any is_formless (oxums_of pairs) ≡ x → nat_lt 1 (length (oxums_of pairs)) ≡ y → list_any (is_other bag) (oxums_of pairs) ≡ z → oxum_steps x y z ≡ Err f → FirstFault bag f
    by_tests true y z form once right e =
        subst (FirstFault bag) (same_err OxumForm f (oxum_steps true y z) refl e) (form_first bag below (form_stands bag v declares pairs read form))
    by_tests false true z form once right e =
        subst (FirstFault bag) (same_err OxumTwice f (oxum_steps false true z) refl e) (twice_first bag (below_15 bag below (form_kept bag is pairs read form)) (twice_stands bag v declares pairs read once))
    by_tests false false true form once right e =
        subst (FirstFault bag) (same_err OxumWrong f (oxum_steps false false true) refl e)
        (wrong_first bag (below_16 bag (below_15 bag below (form_kept bag is pairs read form)) (once_kept bag is pairs read once)) (wrong_stands bag v declares pairs read right))
    by_tests false false false form once right e = absurd cc

-- the fault of bag-info.txt that judging names comes first
pub info_err : (bag : List File) → IsBag bag → (v : Version) → DeclaresVersion bag v → NoneBelow bag 13 → (f : Fault) → obeys_info bag ≡ Err f → FirstFault bag f
info_err bag is v declares below f e = by_Option (content_at bag info_path)
    (λ none. let wrong = rw none at e in absurd cc)
    (λ text found. by_Result (info_of text)
    (λ pairs read.
    let says = says_pairs bag text pairs found read in
    values_err bag is v declares pairs says (below_14 bag below (not_refused bag is pairs says)) f (rw (found, read) at e))
    (λ i read.
    subst (FirstFault bag) (same_err {A = Unit {0}} (InfoText i) f (Err (InfoText i)) refl (rw (found, read) at e))
    (text_first bag below i (v, declares, (text, content_found bag info_path text found, (info_fault text i).0 read)))))

-- ---- a bag in which no fault stands has a right bag-info.txt

-- its bag-info.txt is right
pub info_right : (bag : List File) (v : Version) → DeclaresVersion bag v → ((f : Fault) → Applies bag f → ⊥) → (text : List ℕ) → Holds bag info_path text → InfoIsRight bag text
info_right bag v declares none text holds = by_Result (info_of text)
    (λ pairs e.
    let says = (info_said text pairs).0 e in
    let few = false_from_ne_true (nat_lt 1 (length (oxums_of pairs))) (λ more. none OxumTwice (v, declares, (text, pairs, holds, says, ltb-true 1 (length (oxums_of pairs)) more))) in
    (pairs, says, ltb-false 1 (length (oxums_of pairs)) few, λ value has. named pairs says value has))
    (λ i e. absurd (none (InfoText i) (v, declares, (text, holds, (info_fault text i).0 e))))
  where
    named : (pairs : List Pair) → SaysInfo text pairs → (value : List ℕ) → Contains (oxums_of pairs) value → NamesCounts value (payload_bytes bag) (payload_files bag)
    named pairs says value has = by_Option (counts_of value)
        (λ e. absurd (none OxumForm (v, declares, (value, (text, pairs, holds, says, has), λ bytes files names. has_form value bytes files names (ap (λ (o : Option (ℕ × ℕ)). not (is_some o)) e)))))
        (λ counts e.
        let names = counts_is value counts.0 counts.1 e in
        let same = same_counts bag counts.0 counts.1 (λ differ. none OxumWrong (v, declares, (value, counts.0, counts.1, (text, pairs, holds, says, has), names, differ))) in
        subst (λ (b : ℕ). NamesCounts value b (payload_files bag)) same.0 (subst (λ (f : ℕ). NamesCounts value counts.0 f) same.1 names))
