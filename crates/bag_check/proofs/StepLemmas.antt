-- Each step of judging a bag: it names the first fault of its number, or none of that number stands.
use Rattle.bag_check.proofs.FirstLemmas.{Result, ok_unless, err_if, ◌≡◌, ℕ, ◌+◌, inl, inr, List, [], ◌∷◌, refl, sym, ap, subst, ◌∙◌, Option, Some, None, Ok, Err, File, IsBag, content_at, Version, Algorithm, LineFault, declaration_of, Entries, manifest_of, Kind, Payload, Rule, Holds, HasFile, declaration_path, fetch_path, DeclaresVersion, IsManifestName, word_of, HasManifest, Fault, NoDeclaration, Declaration, FetchNotSupported, UnsupportedAlgorithm, NoPayloadManifest, ManifestText, Breaks, IsBroken, Applies, rule_number, BreachBefore, FirstFault, has_path, or_declaration, declared_by, version_declared, no_fetch, Named, manifests_in, some_payload, Listed, listings_of, first_breach, obeyed_by, obeys, bind_ok, bind_err, same_err, never_both, is_declared, declared_again, refused_again, refused_is_fault, fault_is_refused, Has, contains_has, has_contains, DeclFault, apart, Ascending, ascending_rest, at, bag_ascends, ascends_up, path_of_file, one_content, content_found, no_content, has_path_is, no_path_is, one_algorithm, at_1, at_2, at_3, at_4, at_5, at_6, at_rule, Earlier, none_earlier, NoneBelow, NoneAt, IsLeast, none_below_1, none_more, named_first, one_version, as_named, as_listed, read_of, names, Found, IsFirstUnsupported, first_unsupported, no_payload_manifest, AreRead, IsFirstRefused, first_refused}
use Rattle.bag_text.proofs.DeclarationLemmas as declaration
use Rattle.bag_check.proofs.BreachLemmas.{Place, IsLeastBreach}
use Rattle.bag_check.proofs.RuleLemmas.{AreListed, listed, broken_first}
use Rattle.bag_text.proofs.CaseLemmas.{by_Option, by_Result}

-- ---- the declaration

-- the version that is found is declared
pub version_ok : (bag : List File) (v : Version) → version_declared bag ≡ Ok v → DeclaresVersion bag v
version_ok bag v e = by_content (content_at bag declaration_path) refl e
  where
    by_reading : (text : List ℕ) → content_at bag declaration_path ≡ Some text → (r : Result Version DeclFault) → declaration_of text ≡ r → or_declaration r ≡ Ok v → DeclaresVersion bag v
    by_reading text is (Ok w) read e = (text, content_found bag declaration_path text is, is_declared text v (read ∙ cc))
    by_reading text is (Err f) read e = absurd cc

    by_content : (o : Option (List ℕ)) → content_at bag declaration_path ≡ o → declared_by o ≡ Ok v → DeclaresVersion bag v
    by_content None is e = absurd cc
    by_content (Some text) is e = by_reading text is (declaration_of text) refl e

-- where there is a bagit.txt it is not said to be missing
none_at_1 : (bag : List File) → HasFile bag declaration_path → NoneAt bag 1
none_at_1 bag file g n s = at_1 (λ x. Applies bag x → ⊥) (λ none. none file) g n s

-- where a version is declared the declaration is not refused
none_at_2 : (bag : List File) → IsBag bag → (v : Version) → DeclaresVersion bag v → NoneAt bag 2
none_at_2 bag is v (text, holds, declares) g n s = at_2 (λ x. Applies bag x → ⊥) refused g n s
  where
    refused : (f : DeclFault) → Applies bag (Declaration f) → ⊥
    refused f (other, holds_too, fault) =
        let same : text ≡ other = one_content bag is declaration_path text other holds holds_too in
        never_both v f (declaration_of other) (ap declaration_of (sym same) ∙ declared_again text v declares) (refused_again other f fault)

-- where a version is declared no fault of the declaration stands
pub below_3 : (bag : List File) → IsBag bag → (v : Version) → DeclaresVersion bag v → NoneBelow bag 3
below_3 bag is v declares =
    none_more bag 2 3 refl (none_more bag 1 2 refl (none_below_1 bag) (none_at_1 bag (declares.0, declares.1))) (none_at_2 bag is v declares)

-- the declaration's fault that is named comes first
pub version_err : (bag : List File) (f : Fault) → version_declared bag ≡ Err f → FirstFault bag f
version_err bag f e = by_Option (content_at bag declaration_path)
    (λ is. subst (FirstFault bag) (same_err NoDeclaration f (declared_by None) refl (rw is at e)) (not_there (no_content bag declaration_path is)))
    (λ text is. by_Result (declaration_of text)
    (λ w read. let wrong = rw (is, read) at e in absurd cc)
    (λ d read. subst (FirstFault bag) (same_err (Declaration d) f (or_declaration (Err d)) refl (rw (is, read) at e)) (refused text (content_found bag declaration_path text is) d read)))
  where
    not_there : (HasFile bag declaration_path → ⊥) → FirstFault bag NoDeclaration
    not_there none = named_first bag NoDeclaration (none_below_1 bag) (record { stands = none; first = λ g n s. at_1 (λ x. Earlier x NoDeclaration → ⊥) none_earlier g n })

    refused : (text : List ℕ) → Holds bag declaration_path text → (d : DeclFault) → declaration_of text ≡ Err d → FirstFault bag (Declaration d)
    refused text holds d read = named_first bag (Declaration d)
        (none_more bag 1 2 refl (none_below_1 bag) (none_at_1 bag (text, holds)))
        (record { stands = (text, holds, declaration.refused text d read); first = λ g n s. at_2 (λ x. Earlier x (Declaration d) → ⊥) (λ other. none_earlier) g n })

-- ---- fetch.txt

-- where none is found there is no fetch.txt
pub fetch_ok : (bag : List File) (done : Unit {0}) → no_fetch bag ≡ Ok done → HasFile bag fetch_path → ⊥
fetch_ok bag done e = no_path_is bag fetch_path (ok_unless (has_path bag fetch_path) FetchNotSupported (Ok tt) done e).0

-- without a fetch.txt no fault below 4 stands
pub below_4 : (bag : List File) → NoneBelow bag 3 → (HasFile bag fetch_path → ⊥) → NoneBelow bag 4
below_4 bag below none = none_more bag 3 4 refl below (λ g n s. at_3 (λ x. Applies bag x → ⊥) none g n s)

-- the fetch.txt that is named comes first
pub fetch_err : (bag : List File) (f : Fault) → NoneBelow bag 3 → no_fetch bag ≡ Err f → FirstFault bag f
fetch_err bag f below e =
    let there = err_if (has_path bag fetch_path) FetchNotSupported tt f e in
    subst (FirstFault bag) there.1 (named_first bag FetchNotSupported below (record { stands = has_path_is bag fetch_path there.0; first = λ g n s. at_3 (λ x. Earlier x FetchNotSupported → ⊥) none_earlier g n }))

-- ---- the manifests' names

-- where all are found no other algorithm is named
pub below_5 : (bag : List File) (ms : List Named) → NoneBelow bag 4 → Found bag ms → NoneBelow bag 5
below_5 bag ms below found = none_more bag 4 5 refl below (λ g n s. at_4 (λ x. Applies bag x → ⊥) known g n s)
  where
    known : (name : List ℕ) → Applies bag (UnsupportedAlgorithm name) → ⊥
    known name ((content, holds), (kind, alg, is, differs)) =
        let manifest = found.there (at name content) kind alg (contains_has bag (at name content) holds) is in
        differs manifest.0 manifest.1

-- the manifest of another algorithm that is named comes first
pub names_err : (bag : List File) → IsBag bag → (f : Fault) → NoneBelow bag 4 → manifests_in bag ≡ Err f → FirstFault bag f
names_err bag is f below e = by_first (first_unsupported bag f (bag_ascends bag is) e)
  where
    by_first : IsFirstUnsupported bag f → FirstFault bag f
    by_first found = subst (FirstFault bag) (sym found.is) (named_first bag (UnsupportedAlgorithm found.file.path) below (record {
      stands = (path_of_file bag found.file found.has, found.bad);
      first = λ g n s. at_4 (λ x. Applies bag x → Earlier x (UnsupportedAlgorithm found.file.path) → ⊥) not_before g n s;
    }))
      where
        not_before : (name : List ℕ) → Applies bag (UnsupportedAlgorithm name) → BreachBefore (name, []) (found.file.path, []) → ⊥
        not_before name ((content, holds), bad) (inl before) = found.first (at name content) (contains_has bag (at name content) holds) bad before
        not_before name s (inr before) = apart [] before.1

-- ---- some payload manifest

-- where one is found it isn't said that there is none
pub below_6 : (bag : List File) (ms : List Named) → NoneBelow bag 5 → Found bag ms → (m : Named) → Has ms m → m.kind ≡ Payload → NoneBelow bag 6
below_6 bag ms below found m h payload = none_more bag 5 6 refl below (λ g n s. at_5 (λ x. Applies bag x → ⊥) there g n s)
  where
    there : Applies bag NoPayloadManifest → ⊥
    there none =
        let file = found.back m h in
        none (word_of m.algorithm) m.name (subst (λ (k : Kind). IsManifestName k (word_of m.algorithm) m.name) payload file.1) (m.text, has_contains bag (at m.name m.text) file.0)

-- the want of a payload manifest that is named comes first
pub payload_err : (bag : List File) (ms : List Named) (f : Fault) → NoneBelow bag 5 → Found bag ms → some_payload ms ≡ Err f → FirstFault bag f
payload_err bag ms f below found e = by_none (no_payload_manifest ms f e)
  where
    by_none : (f ≡ NoPayloadManifest) × ((m : Named) → Has ms m → m.kind ≡ Payload → ⊥) → FirstFault bag f
    by_none (is, none) = subst (FirstFault bag) (sym is) (named_first bag NoPayloadManifest below (record {
      stands = λ alg name n file.
          let manifest = found.there (at name file.0) Payload alg (contains_has bag (at name file.0) file.1) n in
          none (as_named (at name file.0) Payload manifest.0) manifest.2 refl;
      first = λ g n s. at_5 (λ x. Earlier x NoPayloadManifest → ⊥) none_earlier g n;
    }))

-- ---- the manifests' texts

-- manifests that were found and read are those of the bag
pub are_listed : (bag : List File) → IsBag bag → (v : Version) (ms : List Named) (ls : List Listed) → Found bag ms → AreRead v ms ls → AreListed bag v ls
are_listed bag is v ms ls found read = record {
  up = subst Ascending (sym read.names_are) (ascending_rest [] (names ms) (found.up [] (ascends_up [] bag is.ascending)));
  back = λ l h. of_list l (read.back l h);
  there = λ kind a name text has. of_manifest kind a name text has (found.there (at name text) kind (word_of a) (contains_has bag (at name text) has.1) has.0);
}
  where
    of_list : (l : Listed) → (m : Named) × (es : Entries) × Has ms m × (read_of v m ≡ Ok es) × (as_listed m es ≡ l) → (text : List ℕ) × HasManifest bag l.kind l.algorithm l.name text × (manifest_of v l.algorithm text ≡ Ok l.entries)
    of_list l (m, es, h, e, same) =
        let file = found.back m h in
        subst (λ (x : Listed). (text : List ℕ) × HasManifest bag x.kind x.algorithm x.name text × (manifest_of v x.algorithm text ≡ Ok x.entries)) same
        (m.text, (file.1, has_contains bag (at m.name m.text) file.0), e)

    of_manifest : (kind : Kind) (a : Algorithm) (name text : List ℕ) → HasManifest bag kind a name text → (b : Algorithm) × (word_of a ≡ word_of b) × Has ms (as_named (at name text) kind b)
        → (es : Entries) × (manifest_of v a text ≡ Ok es) × Has ls (listed name kind a es)
    of_manifest kind a name text has (b, same, h) =
        read.there (as_named (at name text) kind a) (subst (λ (x : Algorithm). Has ms (as_named (at name text) kind x)) (sym (one_algorithm a b same)) h)

-- where all are read none is refused
pub below_7 : (bag : List File) → IsBag bag → (v : Version) → DeclaresVersion bag v → (ls : List Listed) → NoneBelow bag 6 → AreListed bag v ls → NoneBelow bag 7
below_7 bag is v declares ls below read = none_more bag 6 7 refl below (λ g n s. at_6 (λ x. Applies bag x → ⊥) refused g n s)
  where
    refused : (name : List ℕ) (f : LineFault) → Applies bag (ManifestText name f) → ⊥
    refused name f (w, declares_too, (kind, a, text, has, fault)) =
        let version : v ≡ w = one_version bag is v w declares declares_too in
        let found = read.there kind a name text has in
        never_both found.0 f (manifest_of w a text) (ap (λ (x : Version). manifest_of x a text) (sym version) ∙ found.1) (fault_is_refused w a text f fault)

-- the refused manifest that is named comes first
pub texts_err : (bag : List File) → IsBag bag → (v : Version) → DeclaresVersion bag v → (ms : List Named) (f : Fault) → NoneBelow bag 6 → Found bag ms → listings_of v ms ≡ Err f → FirstFault bag f
texts_err bag is v declares ms f below found e =
    by_first (first_refused v ms f (ascending_rest [] (names ms) (found.up [] (ascends_up [] bag is.ascending))) e)
  where
    by_first : IsFirstRefused v ms f → FirstFault bag f
    by_first refused = subst (FirstFault bag) (sym refused.is) (named_first bag (ManifestText refused.manifest.name refused.cause) below (record {
      stands = stands;
      first = λ g n s. at_6 (λ x. Applies bag x → Earlier x (ManifestText refused.manifest.name refused.cause) → ⊥) not_before g n s;
    }))
      where
        file : Has bag (at refused.manifest.name refused.manifest.text) × IsManifestName refused.manifest.kind (word_of refused.manifest.algorithm) refused.manifest.name
        file = found.back refused.manifest refused.has

        stands : Applies bag (ManifestText refused.manifest.name refused.cause)
        stands = let m = refused.manifest in (v, declares, (m.kind, m.algorithm, m.text, (file.1, has_contains bag (at m.name m.text) file.0), refused_is_fault v m.algorithm m.text refused.cause refused.refused))

        not_before : (name : List ℕ) (g : LineFault) → Applies bag (ManifestText name g) → BreachBefore (name, []) (refused.manifest.name, []) → ⊥
        not_before name g (w, declares_too, (kind, a, text, has, fault)) (inl before) =
            let version : v ≡ w = one_version bag is v w declares declares_too in
            let other = found.there (at name text) kind (word_of a) (contains_has bag (at name text) has.1) has.0 in
            let here : Has ms (as_named (at name text) kind a) = subst (λ (x : Algorithm). Has ms (as_named (at name text) kind x)) (sym (one_algorithm a other.0 other.1)) other.2 in
            refused.first (as_named (at name text) kind a) g here (ap (λ (x : Version). manifest_of x a text) version ∙ fault_is_refused w a text g fault) before
        not_before name g s (inr before) = apart [] before.1

-- ---- the rules

-- where no place is found the rule is broken nowhere
rule_kept : (bag : List File) → IsBag bag → (v : Version) → DeclaresVersion bag v → (rule : Rule) → ((name path : List ℕ) → IsBroken bag v rule name path → ⊥) → NoneAt bag (rule_number rule)
rule_kept bag is v declares rule none g n s = at_rule rule (λ x. Applies bag x → ⊥) kept g n s
  where
    kept : (name path : List ℕ) → Applies bag (Breaks rule name path) → ⊥
    kept name path (w, declares_too, broken) = none name path (subst (λ (x : Version). IsBroken bag x rule name path) (sym (one_version bag is v w declares declares_too)) broken)

-- the least place at which a rule is broken comes first
rule_broken : (bag : List File) → IsBag bag → (v : Version) → DeclaresVersion bag v → (rule : Rule) (name path : List ℕ) → IsBroken bag v rule name path → ((other place : List ℕ) → IsBroken bag v rule other place → BreachBefore (other, place) (name, path) → ⊥) → IsLeast bag (Breaks rule name path)
rule_broken bag is v declares rule name path broken least = record {
  stands = (v, declares, broken);
  first = λ g n s. at_rule rule (λ x. Applies bag x → Earlier x (Breaks rule name path) → ⊥) not_before g n s;
}
  where
    not_before : (other place : List ℕ) → Applies bag (Breaks rule other place) → BreachBefore (other, place) (name, path) → ⊥
    not_before other place (w, declares_too, also) before =
        least other place (subst (λ (x : Version). IsBroken bag x rule other place) (sym (one_version bag is v w declares declares_too)) also) before

-- a rule that is found kept is broken nowhere
pub rule_ok : (bag : List File) → IsBag bag → (v : Version) → DeclaresVersion bag v → (ls : List Listed) → AreListed bag v ls → (rule : Rule) (done : Unit {0}) → obeyed_by rule (first_breach bag rule ls) ≡ Ok done → NoneAt bag (rule_number rule)
rule_ok bag is v declares ls read rule done e = by_place (first_breach bag rule ls) (broken_first bag is v ls read rule) e
  where
    by_place : (o : Option Place) → IsLeastBreach (IsBroken bag v rule) o → obeyed_by rule o ≡ Ok done → NoneAt bag (rule_number rule)
    by_place None least e = rule_kept bag is v declares rule least
    by_place (Some place) least e = absurd cc

-- the broken rule that is named comes first
pub rule_err : (bag : List File) → IsBag bag → (v : Version) → DeclaresVersion bag v → (ls : List Listed) → AreListed bag v ls → (rule : Rule) (f : Fault) → NoneBelow bag (rule_number rule) → obeyed_by rule (first_breach bag rule ls) ≡ Err f → FirstFault bag f
rule_err bag is v declares ls read rule f below e = by_place (first_breach bag rule ls) (broken_first bag is v ls read rule) e
  where
    by_place : (o : Option Place) → IsLeastBreach (IsBroken bag v rule) o → obeyed_by rule o ≡ Err f → FirstFault bag f
    by_place None least e = absurd cc
    by_place (Some place) least e = subst (FirstFault bag) (same_err (Breaks rule place.0 place.1) f (obeyed_by rule (Some place)) refl e)
        (named_first bag (Breaks rule place.0 place.1) below (rule_broken bag is v declares rule place.0 place.1 least.0 least.1))

-- ---- rule after rule

-- the numbers of these rules follow one another, from n on, and m is the next
abbrev pub Follow : ℕ → List Rule → ℕ → Type 0
Follow n [] m = n ≡ m
Follow n (rule ∷ rules) m = (rule_number rule ≡ n) × Follow (n + 1) rules m

-- where the rules are found kept none of their numbers stands
pub rules_ok : (bag : List File) → IsBag bag → (v : Version) → DeclaresVersion bag v → (ls : List Listed) → AreListed bag v ls → (rules : List Rule) (n m : ℕ) → Follow n rules m → NoneBelow bag n → (done : Unit {0}) → obeys bag ls rules ≡ Ok done → NoneBelow bag m
unfolding obeys
rules_ok bag is v declares ls read [] n m follow below done e = subst (λ (k : ℕ). NoneBelow bag k) follow below
rules_ok bag is v declares ls read (rule ∷ rules) n m follow below done e =
    let one = bind_ok (obeyed_by rule (first_breach bag rule ls)) (λ _. obeys bag ls rules) done e in
    let none = subst (λ (k : ℕ). NoneAt bag k) follow.0 (rule_ok bag is v declares ls read rule one.0 one.1) in
    rules_ok bag is v declares ls read rules (n + 1) m follow.1 (none_more bag n (n + 1) refl below none) done one.2

-- the broken rule that is named comes first
pub rules_err : (bag : List File) → IsBag bag → (v : Version) → DeclaresVersion bag v → (ls : List Listed) → AreListed bag v ls → (rules : List Rule) (n m : ℕ) → Follow n rules m → NoneBelow bag n → (f : Fault) → obeys bag ls rules ≡ Err f → FirstFault bag f
unfolding obeys
rules_err bag is v declares ls read [] n m follow below f e = absurd cc
rules_err bag is v declares ls read (rule ∷ rules) n m follow below f e = elim (bind_err (obeyed_by rule (first_breach bag rule ls)) (λ _. obeys bag ls rules) f e) [
  | inl e ↦ rule_err bag is v declares ls read rule f (subst (λ (k : ℕ). NoneBelow bag k) (sym follow.0) below) e
  | inr ok ↦
      let kept = subst (λ (k : ℕ). NoneAt bag k) follow.0 (rule_ok bag is v declares ls read rule ok.0 ok.1) in
      rules_err bag is v declares ls read rules (n + 1) m follow.1 (none_more bag n (n + 1) refl below kept) f ok.2
]
