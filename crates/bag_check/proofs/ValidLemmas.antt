-- A valid bag has no fault.
use Rattle.bag_check.proofs.FirstLemmas.{◌≡◌, ℕ, List, sym, ap, subst, ◌∙◌, File, IsBag, Version, declaration_of, manifest_of, Payload, Tag, Rule, declaration_path, word_of, Valid, Fault, NoDeclaration, Declaration, FetchNotSupported, UnsupportedAlgorithm, NoPayloadManifest, ManifestText, Breaks, InfoText, OxumForm, OxumTwice, OxumWrong, IsBroken, Applies, declared_again, refused_again, manifest_is_read, fault_is_refused, never_both, one_content, one_version, info_is_read, oxum_has_form, one_oxum, oxum_is_right}
use Rattle.bag_check.specs.declared.rule.Rule.TheVariants as rules_of

-- in a valid bag no rule is broken
pub no_rule_broken : (bag : List File) (v : Version) → Valid bag v → (rule : Rule) (name path : List ℕ) → IsBroken bag v rule name path → ⊥
no_rule_broken bag v valid rules_of.OutsidePayload name path (lists, outside) = outside (valid.complete.lists_payload name path lists).0
no_rule_broken bag v valid rules_of.TagManifestListed name path (lists, (alg, n)) = valid.complete.no_tag_manifest name path alg lists n
no_rule_broken bag v valid rules_of.PayloadInTagManifest name path (lists, inside) = valid.complete.no_payload name path lists inside
no_rule_broken bag v valid rules_of.PayloadManifestUnlisted name path ((a, text, has), (alg, n), file, unlisted) = unlisted (valid.complete.lists_manifests a name text alg path has n file)
no_rule_broken bag v valid rules_of.Missing name path ((Payload, lists), missing) = missing (valid.complete.lists_payload name path lists).1
no_rule_broken bag v valid rules_of.Missing name path ((Tag, lists), missing) = missing (valid.complete.tags_are_there name path lists)
no_rule_broken bag v valid rules_of.Unlisted name path ((a, text, has), inside, file, unlisted) = unlisted (valid.complete.lists_all a name text path has inside file)
no_rule_broken bag v valid rules_of.ChecksumWrong name path (kind, a, text, checksum, content, has, lists, holds, differs) = differs (valid.fixity kind a name text path checksum content has lists holds)

-- In a valid bag no fault stands.
pub none_stands : (bag : List File) → IsBag bag → (v : Version) → Valid bag v → (f : Fault) → Applies bag f → ⊥
none_stands bag is v valid NoDeclaration s = s (valid.complete.declares.0, valid.complete.declares.1)
none_stands bag is v valid (Declaration d) (text, holds, fault) =
    let declared = valid.complete.declares in
    let same : declared.0 ≡ text = one_content bag is declaration_path declared.0 text declared.1 holds in
    never_both v d (declaration_of text) (ap declaration_of (sym same) ∙ declared_again declared.0 v declared.2) (refused_again text d fault)
none_stands bag is v valid FetchNotSupported s = valid.complete.no_fetch s
none_stands bag is v valid (UnsupportedAlgorithm name) (file, (kind, alg, n, differs)) =
    let known = valid.complete.algorithms kind alg name n file in
    differs known.0 known.1
none_stands bag is v valid NoPayloadManifest s =
    let manifest = valid.complete.some_manifest in
    s (word_of manifest.0) manifest.1 manifest.3.0 (manifest.2, manifest.3.1)
none_stands bag is v valid (ManifestText name f) (w, declares, (kind, a, text, has, fault)) =
    let version : v ≡ w = one_version bag is v w valid.complete.declares declares in
    let read = manifest_is_read v a text (valid.complete.well_formed kind a name text has) in
    never_both read.0 f (manifest_of w a text) (ap (λ (x : Version). manifest_of x a text) (sym version) ∙ read.1) (fault_is_refused w a text f fault)
none_stands bag is v valid (Breaks rule name path) (w, declares, broken) =
    no_rule_broken bag v valid rule name path (subst (λ (x : Version). IsBroken bag x rule name path) (sym (one_version bag is v w valid.complete.declares declares)) broken)
none_stands bag is v valid (InfoText i) s = info_is_read bag v valid i s
none_stands bag is v valid OxumForm s = oxum_has_form bag v valid s
none_stands bag is v valid OxumTwice s = one_oxum bag v valid s
none_stands bag is v valid OxumWrong s = oxum_is_right bag v valid s
