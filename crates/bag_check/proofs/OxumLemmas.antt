-- What a `Payload-Oxum` says is one thing.
use Rattle.bag_check.proofs.Common.{◌≡◌, ℕ, inl, inr, Bool, true, false, eqb, List, [], ◌∷◌, ◌++◌, length, refl, sym, ap, subst, ◌∙◌, arith, append_assoc, Contains, list_all, is_ascii_digit, false≢true, and_parts, or_cases, eqb-true, File, Pair, SaysInfo, info_of, InfoFault, Version, info_said, info_fault, Holds, info_path, IsNumber, NamesCounts, oxums_of, payload_bytes, payload_files, Valid, InfoText, OxumForm, OxumTwice, OxumWrong, Applies, same_ok, never_both, is_blank, AreBlanks}

-- ---- a run of digits ends at one place

-- it doesn't go on with one that passes
abbrev pub Stops : (ℕ → Bool) → List ℕ → Type 0
Stops p [] = Unit {0}
Stops p (b ∷ t) = p b ≡ false

-- two lists that are the same have one head and one rest
pub heads : (x y : ℕ) (xs ys : List ℕ) → x ∷ xs ≡ y ∷ ys → (x ≡ y) × (xs ≡ ys)
heads x y xs ys e = (cc, cc)

-- what stops doesn't go on with one that passes
stopped : (p : ℕ → Bool) (r : List ℕ) (y : ℕ) (ys : List ℕ) → Stops p r → r ≡ y ∷ ys → p y ≡ true → ⊥
stopped p [] y ys stops e passes = absurd cc
stopped p (b ∷ t) y ys stops e passes = false≢true (sym stops ∙ ap p (heads b y t ys e).0 ∙ passes)

-- two runs with what follows them
pub same_run : (p : ℕ → Bool) (xs ys r s : List ℕ) → list_all p xs ≡ true → list_all p ys ≡ true → Stops p r → Stops p s → xs ++ r ≡ ys ++ s → (xs ≡ ys) × (r ≡ s)
same_run p [] [] r s all also stops stops_too e = (refl, e)
same_run p [] (y ∷ ys) r s all also stops stops_too e = absurd (stopped p r y (ys ++ s) stops e (and_parts (p y) (list_all p ys) also).0)
same_run p (x ∷ xs) [] r s all also stops stops_too e = absurd (stopped p s x (xs ++ r) stops_too (sym e) (and_parts (p x) (list_all p xs) all).0)
same_run p (x ∷ xs) (y ∷ ys) r s all also stops stops_too e =
    let first = heads x y (xs ++ r) (ys ++ s) e in
    let rest = same_run p xs ys r s (and_parts (p x) (list_all p xs) all).1 (and_parts (p y) (list_all p ys) also).1 stops stops_too first.1 in
    (ap (λ (t : List ℕ). x ∷ t) rest.0 ∙ ap (λ (b : ℕ). b ∷ ys) first.0, rest.1)

-- a blank is no digit
blank_no_digit : (b : ℕ) → is_blank b ≡ true → is_ascii_digit b ≡ false
blank_no_digit b e =
    elim (or_cases (eqb b 32) (eqb b 9) e) [ inl is ↦ ap is_ascii_digit (eqb-true b 32 is) | inr is ↦ ap is_ascii_digit (eqb-true b 9 is) ]

-- blanks stop a run of digits
pub blanks_stop : (t : List ℕ) → AreBlanks t → Stops is_ascii_digit t
blanks_stop [] blanks = tt
blanks_stop (b ∷ t) blanks = blank_no_digit b (and_parts (is_blank b) (list_all is_blank t) blanks).0

-- the same digits name one number
same_number : (x y : List ℕ) (n m : ℕ) → x ≡ y → IsNumber x n → IsNumber y m → n ≡ m
same_number x y n m e first second = sym (subst (λ (d : List ℕ). IsNumber d n) e first).is ∙ second.is

-- a value names one pair of counts
pub one_pair_of_counts : (value : List ℕ) (b f c g : ℕ) → NamesCounts value b f → NamesCounts value c g → (b ≡ c) × (f ≡ g)
one_pair_of_counts value b f c g (x, y, after, is, blanks, first, second) (u, w, behind, is_too, blanks_too, first_too, second_too) =
    let whole : x ++ (46 ∷ (y ++ after)) ≡ u ++ (46 ∷ (w ++ behind)) = sym (append_assoc x (46 ∷ y) after) ∙ sym is ∙ is_too ∙ append_assoc u (46 ∷ w) behind in
    let one = same_run is_ascii_digit x u (46 ∷ (y ++ after)) (46 ∷ (w ++ behind)) first.all first_too.all refl refl whole in
    let two = same_run is_ascii_digit y w after behind second.all second_too.all (blanks_stop after blanks) (blanks_stop behind blanks_too) (heads 46 46 (y ++ after) (w ++ behind) one.1).1 in
    (same_number x u b c one.0 first first_too, same_number y w f g two.0 second second_too)

-- ---- a valid bag's bag-info.txt has no fault

-- a text says one list of pairs
pub one_info : (text : List ℕ) (ps qs : List Pair) → SaysInfo text ps → SaysInfo text qs → ps ≡ qs
one_info text ps qs says says_too = same_ok ps qs (info_of text) ((info_said text ps).1 says) ((info_said text qs).1 says_too)

-- of any label `Payload-Oxum` the counts are the payload's
right_counts : (bag : List File) (v : Version) → Valid bag v → (text value : List ℕ) (pairs : List Pair) → Holds bag info_path text → SaysInfo text pairs → Contains (oxums_of pairs) value → NamesCounts value (payload_bytes bag) (payload_files bag)
right_counts bag v valid text value pairs holds says has =
    let right = valid.complete.info text holds in
    right.3 value (subst (λ (ps : List Pair). Contains (oxums_of ps) value) (one_info text pairs right.0 says right.1) has)

-- bag-info.txt isn't refused
pub info_is_read : (bag : List File) (v : Version) → Valid bag v → (i : InfoFault) → Applies bag (InfoText i) → ⊥
info_is_read bag v valid i (w, declares, (text, holds, fault)) =
    let right = valid.complete.info text holds in
    never_both right.0 i (info_of text) ((info_said text right.0).1 right.1) ((info_fault text i).1 fault)

-- each Payload-Oxum has its form
pub oxum_has_form : (bag : List File) (v : Version) → Valid bag v → Applies bag OxumForm → ⊥
oxum_has_form bag v valid (w, declares, (value, (text, pairs, holds, says, has), no_form)) =
    no_form (payload_bytes bag) (payload_files bag) (right_counts bag v valid text value pairs holds says has)

-- there is at most one
pub one_oxum : (bag : List File) (v : Version) → Valid bag v → Applies bag OxumTwice → ⊥
one_oxum bag v valid (w, declares, (text, pairs, holds, says, twice)) =
    let right = valid.complete.info text holds in
    let same : length (oxums_of pairs) ≡ length (oxums_of right.0) = ap (λ (ps : List Pair). length (oxums_of ps)) (one_info text pairs right.0 says right.1) in
    absurd (omega (arith, same, twice, right.2))

-- it names the payload's counts
pub oxum_is_right : (bag : List File) (v : Version) → Valid bag v → Applies bag OxumWrong → ⊥
oxum_is_right bag v valid (w, declares, (value, bytes, files, (text, pairs, holds, says, has), named, wrong)) =
    let right = right_counts bag v valid text value pairs holds says has in
    let same = one_pair_of_counts value bytes files (payload_bytes bag) (payload_files bag) named right in
    elim wrong [ inl differs ↦ differs same.0 | inr differs ↦ differs same.1 ]
