-- Where a rule is broken, by what the manifests list.
use Rattle.bag_check.proofs.FirstLemmas.{◌≡◌, ℕ, Bool, true, false, not, List, refl, sym, ap, subst, ◌∙◌, Option, Some, None, Ok, false≢true, not-true, not_from_false, false_from_ne_true, bytes_eq-Decides, File, IsBag, content_at, Version, Algorithm, Lists, checksum_of, Entry, Entries, manifest_of, is_path_listed, Kind, Payload, Tag, Rule, is_payload, is_kind, HasManifest, ListsAt, digest, IsBroken, has_path, Listed, is_wrong, asks_for, first_in, first_breach, Has, Sha256, Sha512, matches_of, Ascending, IsLeastPath, kept_ascends, kept_has, has_kept, content_found, content_there, has_path_is, no_path_is, is_payload_is, is_payload_again, kind_is, kind_again, manifest_of_is, manifest_of_again, one_manifest, list_names}
use Rattle.bag_text.specs.declared.checksum.Checksum.{Checksum}
use Rattle.bag_check.specs.declared.rule.Rule.TheVariants as rules_of
use Rattle.bag_text.proofs.ManifestEntryLemmas.{listed_has, has_listed}
use Rattle.bag_check.proofs.TextFacts.{lists_there, lists_back, ascend_is}
use Rattle.bag_check.proofs.BreachLemmas.{Breaking, first_is_least, Place, IsLeastBreach, BreakingAt, first_breach_is_least}

-- a manifest that is read
abbrev pub listed : List ℕ → Kind → Algorithm → Entries → Listed
listed name kind a es = record { name = name; kind = kind; algorithm = a; entries = es }

-- the manifests of a bag, each read, ascending by name
pub record AreListed (bag : List File) (v : Version) (ls : List Listed) : Type 0 where
  pub up : Ascending (list_names ls)
  pub back : (l : Listed) → Has ls l → (text : List ℕ) × HasManifest bag l.kind l.algorithm l.name text × (manifest_of v l.algorithm text ≡ Ok l.entries)
  pub there : (kind : Kind) (a : Algorithm) (name text : List ℕ) → HasManifest bag kind a name text → (es : Entries) × (manifest_of v a text ≡ Ok es) × Has ls (listed name kind a es)

-- ---- what is listed

-- a path that a manifest lists is of its entries
pub lists_entry : (bag : List File) (v : Version) (ls : List Listed) → AreListed bag v ls → (kind : Kind) (name path : List ℕ) → ListsAt bag v kind name path → (l : Listed) × Has ls l × (l.kind ≡ kind) × (l.name ≡ name) × ((entry : Entry) × Has l.entries (path, entry))
lists_entry bag v ls read kind name path (a, text, checksum, has, lists) =
    let found = read.there kind a name text has in
    let entry = lists_there v a text found.0 path checksum found.1 lists in
    (listed name kind a found.0, found.2, refl, refl, (entry.0, entry.1))

-- a path of a manifest's entries is listed by it
pub entry_lists : (bag : List File) (v : Version) (ls : List Listed) → AreListed bag v ls → (l : Listed) (path : List ℕ) (entry : Entry) → Has ls l → Has l.entries (path, entry) → ListsAt bag v l.kind l.name path
entry_lists bag v ls read l path entry h has =
    let manifest = read.back l h in
    let lists = lists_back v l.algorithm manifest.0 l.entries path entry manifest.2 has in
    (l.algorithm, manifest.0, lists.0, manifest.1, lists.2)

-- the same of a manifest of a kind
entry_lists_as : (bag : List File) (v : Version) (ls : List Listed) → AreListed bag v ls → (l : Listed) (path : List ℕ) (entry : Entry) → Has ls l → Has l.entries (path, entry) → (kind : Kind) → is_kind kind l.kind ≡ true → ListsAt bag v kind l.name path
entry_lists_as bag v ls read l path entry h has kind is =
    subst (λ (k : Kind). ListsAt bag v k l.name path) (kind_is kind l.kind is) (entry_lists bag v ls read l path entry h has)

-- what a manifest of the same name lists is found in its entries
pub lists_found : (bag : List File) → IsBag bag → (v : Version) (ls : List Listed) → AreListed bag v ls → (l : Listed) (kind : Kind) (path : List ℕ) → Has ls l → ListsAt bag v kind l.name path → is_path_listed path l.entries ≡ true
lists_found bag is v ls read l kind path h (a, text, checksum, has, lists) =
    let manifest = read.back l h in
    let same = one_manifest bag is kind l.kind a l.algorithm l.name text manifest.0 has manifest.1 in
    let moved : Lists v l.algorithm manifest.0 path checksum = subst (λ (t : List ℕ). Lists v l.algorithm t path checksum) same.2 (subst (λ (x : Algorithm). Lists v x text path checksum) same.1 lists) in
    let entry = lists_there v l.algorithm manifest.0 l.entries path checksum manifest.2 moved in
    has_listed path entry.0 l.entries entry.1

-- what is found in a manifest's entries is listed
pub found_lists : (bag : List File) (v : Version) (ls : List Listed) → AreListed bag v ls → (l : Listed) (path : List ℕ) → Has ls l → is_path_listed path l.entries ≡ true → ListsAt bag v l.kind l.name path
found_lists bag v ls read l path h found =
    let entry = listed_has path l.entries found in
    entry_lists bag v ls read l path entry.0 h entry.1

-- ---- fixity

-- the digest is the checksum exactly where computing says so
pub matches_is : (a : Algorithm) (content checksum : List ℕ) → matches_of content (checksum_of a checksum) ≡ true → digest a content ≡ checksum
matches_is Sha256 content checksum e = (bytes_eq-Decides (digest Sha256 content) checksum).0 e
matches_is Sha512 content checksum e = (bytes_eq-Decides (digest Sha512 content) checksum).0 e

-- where the digest is the checksum computing says so
pub matches_again : (a : Algorithm) (content checksum : List ℕ) → digest a content ≡ checksum → matches_of content (checksum_of a checksum) ≡ true
matches_again Sha256 content checksum e = (bytes_eq-Decides (digest Sha256 content) checksum).1 e
matches_again Sha512 content checksum e = (bytes_eq-Decides (digest Sha512 content) checksum).1 e

-- ---- a rule is broken where computing says so

-- a wrong checksum is one of a file that is there
wrong_content : (checksum : Checksum) (o : Option (List ℕ)) → is_wrong checksum o ≡ true → (content : List ℕ) × (o ≡ Some content) × (matches_of content checksum ≡ false)
wrong_content checksum None e = absurd cc
wrong_content checksum (Some content) e = (content, refl, not-true (matches_of content checksum) e)

-- a file that a manifest of a kind is to list, and doesn't
left_out : (bag : List File) → IsBag bag → (v : Version) (ls : List Listed) → AreListed bag v ls → (l : Listed) (path : List ℕ) → Has ls l → (kind : Kind) → is_kind kind l.kind ≡ true → not (is_path_listed path l.entries) ≡ true
    → ((a : Algorithm) × (text : List ℕ) × HasManifest bag kind a l.name text) × (ListsAt bag v kind l.name path → ⊥)
left_out bag is v ls read l path h kind is_of unlisted =
    let manifest = read.back l h in (
      (l.algorithm, manifest.0, subst (λ (k : Kind). HasManifest bag k l.algorithm l.name manifest.0) (kind_is kind l.kind is_of) manifest.1),
      λ lists. false≢true (sym (not-true (is_path_listed path l.entries) unlisted) ∙ lists_found bag is v ls read l kind path h lists),
    )

-- where computing says so the rule is broken
pub broken_is : (bag : List File) → IsBag bag → (v : Version) (ls : List Listed) → AreListed bag v ls → (rule : Rule) (l : Listed) (path : List ℕ) → Has ls l → Breaking bag rule l path → IsBroken bag v rule l.name path
broken_is bag is v ls read rules_of.OutsidePayload l path h (kind, (entry, has, outside)) = (
  entry_lists_as bag v ls read l path entry h has Payload kind,
  λ inside. false≢true (sym (not-true (is_payload path) outside) ∙ is_payload_again path inside),
)
broken_is bag is v ls read rules_of.TagManifestListed l path h (kind, (entry, has, tag)) =
    (entry_lists_as bag v ls read l path entry h has Tag kind, manifest_of_is Tag path tag)
broken_is bag is v ls read rules_of.PayloadInTagManifest l path h (kind, (entry, has, inside)) =
    (entry_lists_as bag v ls read l path entry h has Tag kind, is_payload_is path inside)
broken_is bag is v ls read rules_of.PayloadManifestUnlisted l path h (kind, (has, unlisted)) =
    let left = left_out bag is v ls read l path h Tag kind unlisted in
    let file = kept_has (asks_for rules_of.PayloadManifestUnlisted) bag path has in
    (left.0, manifest_of_is Payload path file.1, file.0, left.1)
broken_is bag is v ls read rules_of.Missing l path h (kind, (entry, has, missing)) =
    ((l.kind, entry_lists bag v ls read l path entry h has), no_path_is bag path (not-true (has_path bag path) missing))
broken_is bag is v ls read rules_of.Unlisted l path h (kind, (has, unlisted)) =
    let left = left_out bag is v ls read l path h Payload kind unlisted in
    let file = kept_has (asks_for rules_of.Unlisted) bag path has in
    (left.0, is_payload_is path file.1, file.0, left.1)
broken_is bag is v ls read rules_of.ChecksumWrong l path h (kind, (entry, has, wrong)) =
    let manifest = read.back l h in
    let content = wrong_content entry.checksum (content_at bag path) wrong in
    let lists = lists_back v l.algorithm manifest.0 l.entries path entry manifest.2 has in (
      l.kind,
      l.algorithm,
      manifest.0,
      lists.0,
      content.0,
      manifest.1,
      lists.2,
      content_found bag path content.0 content.1,
      λ same. false≢true (sym content.2 ∙ ap (matches_of content.0) lists.1 ∙ matches_again l.algorithm content.0 lists.0 same),
    )

-- ---- and nowhere else

-- a test that cannot pass fails
fails : (test : Bool) → (test ≡ true → ⊥) → not test ≡ true
fails test never = not_from_false test (false_from_ne_true test never)

-- where the rule is broken computing says so
pub broken_again : (bag : List File) → IsBag bag → (v : Version) (ls : List Listed) → AreListed bag v ls → (rule : Rule) (name path : List ℕ) → IsBroken bag v rule name path → BreakingAt bag rule ls name path
broken_again bag is v ls read rules_of.OutsidePayload name path (lists, outside) =
    let entry = lists_entry bag v ls read Payload name path lists in
    (entry.0, entry.1, entry.3, (kind_again Payload entry.0.kind entry.2, (entry.4.0, entry.4.1, fails (is_payload path) (λ e. outside (is_payload_is path e)))))
broken_again bag is v ls read rules_of.TagManifestListed name path (lists, (alg, n)) =
    let entry = lists_entry bag v ls read Tag name path lists in
    (entry.0, entry.1, entry.3, (kind_again Tag entry.0.kind entry.2, (entry.4.0, entry.4.1, manifest_of_again Tag path alg n)))
broken_again bag is v ls read rules_of.PayloadInTagManifest name path (lists, inside) =
    let entry = lists_entry bag v ls read Tag name path lists in
    (entry.0, entry.1, entry.3, (kind_again Tag entry.0.kind entry.2, (entry.4.0, entry.4.1, is_payload_again path inside)))
broken_again bag is v ls read rules_of.PayloadManifestUnlisted name path ((a, text, has), (alg, n), file, unlisted) =
    let found = read.there Tag a name text has in
    let l : Listed = listed name Tag a found.0 in
    (l, found.2, refl, (refl, (has_kept (asks_for rules_of.PayloadManifestUnlisted) bag path file (manifest_of_again Payload path alg n), fails (is_path_listed path found.0) (λ e. unlisted (found_lists bag v ls read l path found.2 e)))))
broken_again bag is v ls read rules_of.Missing name path ((kind, lists), missing) =
    let entry = lists_entry bag v ls read kind name path lists in
    (entry.0, entry.1, entry.3, (refl, (entry.4.0, entry.4.1, fails (has_path bag path) (λ e. missing (has_path_is bag path e)))))
broken_again bag is v ls read rules_of.Unlisted name path ((a, text, has), inside, file, unlisted) =
    let found = read.there Payload a name text has in
    let l : Listed = listed name Payload a found.0 in
    (l, found.2, refl, (refl, (has_kept (asks_for rules_of.Unlisted) bag path file (is_payload_again path inside), fails (is_path_listed path found.0) (λ e. unlisted (found_lists bag v ls read l path found.2 e)))))
broken_again bag is v ls read rules_of.ChecksumWrong name path (kind, a, text, checksum, content, has, lists, holds, differs) =
    let found = read.there kind a name text has in
    let entry = lists_there v a text found.0 path checksum found.1 lists in
    let there : content_at bag path ≡ Some content = content_there bag is path content holds in
    let wrong : not (matches_of content entry.0.checksum) ≡ true = fails (matches_of content entry.0.checksum) (λ e. differs (matches_is a content checksum (ap (matches_of content) (sym entry.2) ∙ e))) in
    (listed name kind a found.0, found.2, refl, (refl, (entry.0, entry.1, ap (is_wrong entry.0.checksum) there ∙ wrong)))

-- The first place is the least one at which the rule is broken.
pub broken_first : (bag : List File) → IsBag bag → (v : Version) (ls : List Listed) → AreListed bag v ls → (rule : Rule) → IsLeastBreach (IsBroken bag v rule) (first_breach bag rule ls)
broken_first bag is v ls read rule =
    by_place (first_breach bag rule ls) (first_breach_is_least bag rule ls read.up each)
  where
    each : (l : Listed) → Has ls l → IsLeastPath (Breaking bag rule l) (first_in bag rule l)
    each l h =
        let manifest = read.back l h in
        first_is_least bag rule l (kept_ascends (asks_for rule) bag is) (ascend_is v l.algorithm manifest.0 l.entries manifest.2)

    by_place : (o : Option Place) → IsLeastBreach (BreakingAt bag rule ls) o → IsLeastBreach (IsBroken bag v rule) o
    by_place None least = λ name path h. least name path (broken_again bag is v ls read rule name path h)
    by_place (Some place) ((l, h, at, broken), least) = (
      subst (λ (n : List ℕ). IsBroken bag v rule n place.1) at (broken_is bag is v ls read rule l place.1 h broken),
      λ name path k. least name path (broken_again bag is v ls read rule name path k),
    )
