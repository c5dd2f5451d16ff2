-- Faults by their numbers, and that of a bag only one comes first.
use Rattle.bag_check.proofs.Common.{◌≡◌, ℕ, ◌+◌, ◌<◌, ◌≤◌, inl, inr, Bool, true, false, List, [], ◌∷◌, refl, sym, ap, subst, ◌∙◌, arith, eqb as nat_eq, list_any, false≢true, cases_order, same_Some, File, IsBag, Version, Algorithm, LineFault, InfoFault, declaration_of, manifest_of, info_of, info_fault, Kind, Rule, declaration_path, info_path, DeclaresVersion, HasManifest, word_of, Fault, NoDeclaration, Declaration, FetchNotSupported, UnsupportedAlgorithm, NoPayloadManifest, ManifestText, Breaks, InfoText, OxumForm, OxumTwice, OxumWrong, Applies, rule_number, fault_number, fault_name, fault_path, BreachBefore, ComesFirst, FirstFault, same_ok, same_err, declared_again, fault_is_refused, DeclFault}
use Rattle.bag_text.specs.Declaration.{declaration_fault}
use Rattle.bag_check.specs.declared.rule.Rule.TheVariants as rules_of
use Rattle.bag_check.proofs.OrderLemmas.{apart, one_first}
use Rattle.bag_check.proofs.BagLemmas.{one_content}
use Rattle.bag_check.proofs.NameLemmas.{one_name, one_algorithm}

-- ---- rules by their numbers

-- the numbers of the rules
abbrev rule_numbers : List ℕ
rule_numbers = 7 ∷ 8 ∷ 9 ∷ 10 ∷ 11 ∷ 12 ∷ 17 ∷ []

-- whether a number is a rule's
abbrev is_rule : ℕ → Bool
is_rule n = list_any (nat_eq n) rule_numbers

-- a rule's number is one of them
rule_is : (rule : Rule) → is_rule (rule_number rule) ≡ true
rule_is rules_of.OutsidePayload = refl
rule_is _ = refl

-- a number that is no rule's
no_rule : (rule : Rule) (n : ℕ) → is_rule n ≡ false → rule_number rule ≡ n → ⊥
no_rule rule n none e = false≢true (sym none ∙ ap is_rule (sym e) ∙ rule_is rule)

-- two rules with one number are the same
one_rule : (x y : Rule) → rule_number x ≡ rule_number y → x ≡ y
one_rule rules_of.OutsidePayload rules_of.OutsidePayload e = refl
one_rule rules_of.TagManifestListed rules_of.TagManifestListed e = refl
one_rule rules_of.PayloadInTagManifest rules_of.PayloadInTagManifest e = refl
one_rule rules_of.PayloadManifestUnlisted rules_of.PayloadManifestUnlisted e = refl
one_rule rules_of.Missing rules_of.Missing e = refl
one_rule rules_of.Unlisted rules_of.Unlisted e = refl
one_rule rules_of.ChecksumWrong rules_of.ChecksumWrong e = refl
one_rule _ _ e = absurd (omega (arith, e))

-- ---- what holds of the faults of one number holds of each that has it

-- number 1: there is no declaration
pub at_1 : (P : Fault → Type 0) → P NoDeclaration → (g : Fault) → fault_number g ≡ 1 → P g
at_1 P p NoDeclaration e = p
at_1 P p (Breaks rule name path) e = absurd (no_rule rule 1 refl e)
at_1 P p _ e = absurd (omega (arith, e))

-- number 2: the declaration is refused
pub at_2 : (P : Fault → Type 0) → ((f : DeclFault) → P (Declaration f)) → (g : Fault) → fault_number g ≡ 2 → P g
at_2 P p (Declaration f) e = p f
at_2 P p (Breaks rule name path) e = absurd (no_rule rule 2 refl e)
at_2 P p _ e = absurd (omega (arith, e))

-- number 3: there is a fetch.txt
pub at_3 : (P : Fault → Type 0) → P FetchNotSupported → (g : Fault) → fault_number g ≡ 3 → P g
at_3 P p FetchNotSupported e = p
at_3 P p (Breaks rule name path) e = absurd (no_rule rule 3 refl e)
at_3 P p _ e = absurd (omega (arith, e))

-- number 4: a manifest of another algorithm
pub at_4 : (P : Fault → Type 0) → ((name : List ℕ) → P (UnsupportedAlgorithm name)) → (g : Fault) → fault_number g ≡ 4 → P g
at_4 P p (UnsupportedAlgorithm name) e = p name
at_4 P p (Breaks rule name path) e = absurd (no_rule rule 4 refl e)
at_4 P p _ e = absurd (omega (arith, e))

-- number 5: there is no payload manifest
pub at_5 : (P : Fault → Type 0) → P NoPayloadManifest → (g : Fault) → fault_number g ≡ 5 → P g
at_5 P p NoPayloadManifest e = p
at_5 P p (Breaks rule name path) e = absurd (no_rule rule 5 refl e)
at_5 P p _ e = absurd (omega (arith, e))

-- number 6: a manifest's text is refused
pub at_6 : (P : Fault → Type 0) → ((name : List ℕ) (f : LineFault) → P (ManifestText name f)) → (g : Fault) → fault_number g ≡ 6 → P g
at_6 P p (ManifestText name f) e = p name f
at_6 P p (Breaks rule name path) e = absurd (no_rule rule 6 refl e)
at_6 P p _ e = absurd (omega (arith, e))

-- number 13: bag-info.txt is refused
pub at_13 : (P : Fault → Type 0) → ((f : InfoFault) → P (InfoText f)) → (g : Fault) → fault_number g ≡ 13 → P g
at_13 P p (InfoText f) e = p f
at_13 P p (Breaks rule name path) e = absurd (no_rule rule 13 refl e)
at_13 P p _ e = absurd (omega (arith, e))

-- number 14: a Payload-Oxum of another form
pub at_14 : (P : Fault → Type 0) → P OxumForm → (g : Fault) → fault_number g ≡ 14 → P g
at_14 P p OxumForm e = p
at_14 P p (Breaks rule name path) e = absurd (no_rule rule 14 refl e)
at_14 P p _ e = absurd (omega (arith, e))

-- number 15: two of them
pub at_15 : (P : Fault → Type 0) → P OxumTwice → (g : Fault) → fault_number g ≡ 15 → P g
at_15 P p OxumTwice e = p
at_15 P p (Breaks rule name path) e = absurd (no_rule rule 15 refl e)
at_15 P p _ e = absurd (omega (arith, e))

-- number 16: one that is wrong
pub at_16 : (P : Fault → Type 0) → P OxumWrong → (g : Fault) → fault_number g ≡ 16 → P g
at_16 P p OxumWrong e = p
at_16 P p (Breaks rule name path) e = absurd (no_rule rule 16 refl e)
at_16 P p _ e = absurd (omega (arith, e))

-- a rule's number: the rule is broken
pub at_rule : (rule : Rule) (P : Fault → Type 0) → ((name path : List ℕ) → P (Breaks rule name path)) → (g : Fault) → fault_number g ≡ rule_number rule → P g
at_rule rule P p (Breaks other name path) e = subst (λ (r : Rule). P (Breaks r name path)) (sym (one_rule other rule e)) (p name path)
at_rule rule P p NoDeclaration e = absurd (no_rule rule 1 refl (sym e))
at_rule rule P p (Declaration f) e = absurd (no_rule rule 2 refl (sym e))
at_rule rule P p FetchNotSupported e = absurd (no_rule rule 3 refl (sym e))
at_rule rule P p (UnsupportedAlgorithm name) e = absurd (no_rule rule 4 refl (sym e))
at_rule rule P p NoPayloadManifest e = absurd (no_rule rule 5 refl (sym e))
at_rule rule P p (ManifestText name f) e = absurd (no_rule rule 6 refl (sym e))
at_rule rule P p (InfoText f) e = absurd (no_rule rule 13 refl (sym e))
at_rule rule P p OxumForm e = absurd (no_rule rule 14 refl (sym e))
at_rule rule P p OxumTwice e = absurd (no_rule rule 15 refl (sym e))
at_rule rule P p OxumWrong e = absurd (no_rule rule 16 refl (sym e))

-- a fault's number is one of 1 to 17
pub number_range : (g : Fault) → (1 ≤ fault_number g) × (fault_number g < 18)
number_range (Breaks rules_of.OutsidePayload name path) = (omega arith, omega arith)
number_range _ = (omega arith, omega arith)

-- ---- one number after the other

-- no fault of a lower number stands
abbrev pub NoneBelow : List File → ℕ → Type 0
NoneBelow bag n = (g : Fault) → fault_number g < n → Applies bag g → ⊥

-- no fault of this number stands
abbrev pub NoneAt : List File → ℕ → Type 0
NoneAt bag n = (g : Fault) → fault_number g ≡ n → Applies bag g → ⊥

-- what a fault names comes before what another names
abbrev pub Earlier : Fault → Fault → Type 0
Earlier g f = BreachBefore (fault_name g, fault_path g) (fault_name f, fault_path f)

-- nothing comes before an empty name and an empty path with the same
pub none_earlier : BreachBefore ([], []) ([], []) → ⊥
none_earlier (inl before) = apart [] before
none_earlier (inr before) = apart [] before.1

-- a fault that comes first among those of its number
pub record IsLeast (bag : List File) (f : Fault) : Type 0 where
  pub stands : Applies bag f
  pub first : (g : Fault) → fault_number g ≡ fault_number f → Applies bag g → BreachBefore (fault_name g, fault_path g) (fault_name f, fault_path f) → ⊥

-- no fault has a number below 1
pub none_below_1 : (bag : List File) → NoneBelow bag 1
none_below_1 bag g lt s = absurd (omega (arith, (number_range g).0))

-- where none stands below a number and none at it, none stands below the next
pub none_more : (bag : List File) (n m : ℕ) → m ≡ n + 1 → NoneBelow bag n → NoneAt bag n → NoneBelow bag m
none_more bag n m is below here g lt s = elim (cases_order (fault_number g) n) [
  | inl same ↦ here g same s
  | inr other ↦ elim other [ inl less ↦ below g less s | inr more ↦ absurd (omega (arith, more, lt, is)) ]
]

-- the first of its number, where none of a lower one stands, is the one that is named
pub named_first : (bag : List File) (f : Fault) → NoneBelow bag (fault_number f) → IsLeast bag f → FirstFault bag f
named_first bag f below least = (least.stands, not_before)
  where
    not_before : (g : Fault) → Applies bag g → ComesFirst g f → ⊥
    not_before g s (inl lt) = below g lt s
    not_before g s (inr (same, place)) = least.first g same s place

-- ---- only one fault comes first

-- a bag declares one version
pub one_version : (bag : List File) → IsBag bag → (v w : Version) → DeclaresVersion bag v → DeclaresVersion bag w → v ≡ w
one_version bag is v w (t, holds, declares) (u, holds_too, declares_too) =
    let same : t ≡ u = one_content bag is declaration_path t u holds holds_too in
    same_ok v w (declaration_of u) (ap declaration_of (sym same) ∙ declared_again t v declares) (declared_again u w declares_too)

-- a manifest's name has one kind, algorithm and text
pub one_manifest : (bag : List File) → IsBag bag → (k l : Kind) (a b : Algorithm) (name t u : List ℕ) → HasManifest bag k a name t → HasManifest bag l b name u → (k ≡ l) × (a ≡ b) × (t ≡ u)
one_manifest bag is k l a b name t u (n, holds) (m, holds_too) =
    let same = one_name name k l (word_of a) (word_of b) n m in
    (same.0, one_algorithm a b same.1, one_content bag is name t u holds holds_too)

-- two faults of which neither comes first have one number, name and path
neither_first : (f g : Fault) → (ComesFirst f g → ⊥) → (ComesFirst g f → ⊥) → (fault_number f ≡ fault_number g) × (fault_name f ≡ fault_name g) × (fault_path f ≡ fault_path g)
neither_first f g not_f not_g = elim (cases_order (fault_number f) (fault_number g)) [
  | inl same ↦
      let name : fault_name f ≡ fault_name g = one_first (fault_name f) (fault_name g) (λ h. not_f (inr (same, inl h))) (λ h. not_g (inr (sym same, inl h))) in
      (same, name, one_first (fault_path f) (fault_path g) (λ h. not_f (inr (same, inr (name, h)))) (λ h. not_g (inr (sym same, inr (sym name, h)))))
  | inr other ↦ elim other [ inl less ↦ absurd (not_f (inl less)) | inr more ↦ absurd (not_g (inl more)) ]
]

-- two declarations' faults of one bag are the same
same_declaration : (bag : List File) → IsBag bag → (d e : DeclFault) → Applies bag (Declaration d) → Applies bag (Declaration e) → d ≡ e
same_declaration bag is d e (t, holds, fault) (u, holds_too, fault_too) =
    let same : t ≡ u = one_content bag is declaration_path t u holds holds_too in
    same_Some d e (sym fault ∙ ap declaration_fault same ∙ fault_too)

-- two faults of one bag's bag-info.txt are the same
same_info : (bag : List File) → IsBag bag → (i j : InfoFault) → Applies bag (InfoText i) → Applies bag (InfoText j) → i ≡ j
same_info bag is i j (v, declares, (t, holds, fault)) (w, declares_too, (u, holds_too, fault_too)) =
    let same : t ≡ u = one_content bag is info_path t u holds holds_too in
    same_err i j (info_of u) (ap info_of (sym same) ∙ (info_fault t i).1 fault) ((info_fault u j).1 fault_too)

-- two faults of one manifest's text are the same
same_text : (bag : List File) → IsBag bag → (name : List ℕ) (l m : LineFault) → Applies bag (ManifestText name l) → Applies bag (ManifestText name m) → l ≡ m
same_text bag is name l m (v, declares, (k, a, t, has, fault)) (w, declares_too, (k', b, u, has_too, fault_too)) =
    let version : v ≡ w = one_version bag is v w declares declares_too in
    let same = one_manifest bag is k k' a b name t u has has_too in
    let moved : manifest_of v a t ≡ manifest_of w b u =
    ap (λ (x : Version). manifest_of x a t) version ∙ ap (λ (x : Algorithm). manifest_of w x t) same.1 ∙ ap (manifest_of w b) same.2 in
    same_err l m (manifest_of w b u) (sym moved ∙ fault_is_refused v a t l fault) (fault_is_refused w b u m fault_too)

-- two faults of a bag with one number, name and path are the same
pub one_fault : (bag : List File) → IsBag bag → (f g : Fault) → Applies bag f → Applies bag g → fault_number f ≡ fault_number g → fault_name f ≡ fault_name g → fault_path f ≡ fault_path g → f ≡ g
one_fault bag is NoDeclaration g s t n m p = at_1 (λ (x : Fault). NoDeclaration ≡ x) refl g (sym n)
one_fault bag is (Declaration d) g s t n m p =
    at_2 (λ (x : Fault). Applies bag x → Declaration d ≡ x) (λ e u. ap Declaration (same_declaration bag is d e s u)) g (sym n) t
one_fault bag is FetchNotSupported g s t n m p = at_3 (λ (x : Fault). FetchNotSupported ≡ x) refl g (sym n)
one_fault bag is (UnsupportedAlgorithm name) g s t n m p =
    at_4 (λ (x : Fault). name ≡ fault_name x → UnsupportedAlgorithm name ≡ x) (λ other e. ap UnsupportedAlgorithm e) g (sym n) m
one_fault bag is NoPayloadManifest g s t n m p = at_5 (λ (x : Fault). NoPayloadManifest ≡ x) refl g (sym n)
one_fault bag is (ManifestText name l) g s t n m p =
    at_6 (λ (x : Fault). Applies bag x → name ≡ fault_name x → ManifestText name l ≡ x)
    (λ other k u e. ap (λ (x : List ℕ). ManifestText x l) e ∙ ap (ManifestText other) (same_text bag is other l k (subst (λ (x : List ℕ). Applies bag (ManifestText x l)) e s) u)) g (sym n) t m
one_fault bag is (Breaks rule name path) g s t n m p =
    at_rule rule (λ (x : Fault). name ≡ fault_name x → path ≡ fault_path x → Breaks rule name path ≡ x)
    (λ other place e h. ap (λ (x : List ℕ). Breaks rule x path) e ∙ ap (Breaks rule other) h) g (sym n) m p
one_fault bag is (InfoText i) g s t n m p = at_13 (λ (x : Fault). Applies bag x → InfoText i ≡ x) (λ j u. ap InfoText (same_info bag is i j s u)) g (sym n) t
one_fault bag is OxumForm g s t n m p = at_14 (λ (x : Fault). OxumForm ≡ x) refl g (sym n)
one_fault bag is OxumTwice g s t n m p = at_15 (λ (x : Fault). OxumTwice ≡ x) refl g (sym n)
one_fault bag is OxumWrong g s t n m p = at_16 (λ (x : Fault). OxumWrong ≡ x) refl g (sym n)

-- Of a bag only one fault comes first.
pub one_first_fault : (bag : List File) → IsBag bag → (f g : Fault) → FirstFault bag f → FirstFault bag g → f ≡ g
one_first_fault bag is f g (stands, first) (stands_too, first_too) =
    let same = neither_first f g (λ h. first_too f stands h) (λ h. first g stands_too h) in
    one_fault bag is f g stands stands_too same.0 same.1 same.2
