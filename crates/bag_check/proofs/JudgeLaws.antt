-- Judging a bag gives its report exactly where it is valid, and else the fault that comes first.
use Rattle.bag_check.proofs.FirstLemmas.{◌≡◌, ℕ, ◌↔◌, ◌⊎◌, inl, inr, Bool, true, false, List, [], ◌∷◌, refl, sym, ap, subst, ◌∙◌, Result, Ok, Err, false≢true, File, IsBag, Version, Algorithm, Lists, checksum_of, is_path_listed, Kind, Payload, Tag, Rule, Holds, HasFile, IsPayload, is_payload, fetch_path, DeclaresVersion, IsManifestName, word_of, HasManifest, ListsAt, digest, Report, report_of, Valid, Fault, Breaks, IsBroken, Applies, FirstFault, ◌>>=◌, has_path, version_declared, no_fetch, Named, manifests_in, some_payload, Listed, listings_of, listings_in, obeys, listing_rules, obeys_info, obeys_contents, judge, bind_ok, bind_err, same_ok, read_is_manifest, Has, contains_has, has_contains, matches_of, at, has_path_is, no_path_is, is_payload_is, is_payload_again, number_range, NoneBelow, one_version, one_first_fault, Found, found_all, payload_manifest, all_read}
use Rattle.bag_check.specs.declared.rule.Rule.TheVariants as rules_of
use Rattle.bag_check.proofs.RuleLemmas.{AreListed, listed, lists_found, found_lists, matches_is, matches_again}
use Rattle.bag_check.proofs.StepLemmas.{version_ok, version_err, below_3, fetch_ok, fetch_err, below_4, names_err, below_5, payload_err, below_6, are_listed, texts_err, below_7, Follow, rules_ok, rules_err}
use Rattle.bag_check.proofs.InfoStepLemmas.{info_ok, info_err, info_right}
use Rattle.bag_check.proofs.ValidLemmas.{none_stands}
use Rattle.bag_text.proofs.CaseLemmas.{by_Bool, by_Result}

-- what judging knows once the manifests are read
record IsRead (bag : List File) (v : Version) (ms : List Named) (ls : List Listed) : Type 0 where
  is : IsBag bag
  declares : DeclaresVersion bag v
  fetch : HasFile bag fetch_path → ⊥
  found : Found bag ms
  payload : (m : Named) × Has ms m × (m.kind ≡ Payload)
  read : AreListed bag v ls
  below : NoneBelow bag 7

-- ---- a bag in which no fault stands is valid

-- a bag whose manifests are read, and in which no fault stands, is valid
valid_from : (bag : List File) (v : Version) (ms : List Named) (ls : List Listed) → IsRead bag v ms ls → ((f : Fault) → Applies bag f → ⊥) → Valid bag v
valid_from bag v ms ls r none = record {
  complete = record {
    declares = r.declares;
    no_fetch = r.fetch;
    algorithms = λ kind alg name n file.
        let manifest = r.found.there (at name file.0) kind alg (contains_has bag (at name file.0) file.1) n in
        (manifest.0, manifest.1);
    some_manifest =
        let m = r.payload in
        let file = r.found.back m.0 m.1 in
        (m.0.algorithm, m.0.name, m.0.text, (subst (λ (k : Kind). IsManifestName k (word_of m.0.algorithm) m.0.name) m.2 file.1, has_contains bag (at m.0.name m.0.text) file.0));
    well_formed = λ kind a name text has. let found = r.read.there kind a name text has in read_is_manifest v a text found.0 found.1;
    lists_payload = λ name path lists. (inside name path lists (is_payload path) refl, there name path Payload lists (has_path bag path) refl);
    lists_all = λ a name text path has is file. unless_left_out Payload a name text path has (λ left. not_broken rules_of.Unlisted name path ((a, text, has), is, file, left));
    tags_are_there = λ name path lists. there name path Tag lists (has_path bag path) refl;
    no_payload = λ name path lists is. not_broken rules_of.PayloadInTagManifest name path (lists, is);
    no_tag_manifest = λ name path alg lists n. not_broken rules_of.TagManifestListed name path (lists, (alg, n));
    lists_manifests = λ a name text alg path has n file. unless_left_out Tag a name text path has (λ left. not_broken rules_of.PayloadManifestUnlisted name path ((a, text, has), (alg, n), file, left));
    info = info_right bag v r.declares none;
  };
  fixity = λ kind a name text path checksum content has lists holds. right kind a name text path checksum content has lists holds (matches_of content (checksum_of a checksum)) refl;
}
  where
    not_broken : (rule : Rule) (name path : List ℕ) → IsBroken bag v rule name path → ⊥
    not_broken rule name path broken = none (Breaks rule name path) (v, r.declares, broken)

    inside : (name path : List ℕ) → ListsAt bag v Payload name path → (x : Bool) → is_payload path ≡ x → IsPayload path
    inside name path lists true t = is_payload_is path t
    inside name path lists false t = absurd (not_broken rules_of.OutsidePayload name path (lists, λ is. false≢true (sym t ∙ is_payload_again path is)))

    there : (name path : List ℕ) (kind : Kind) → ListsAt bag v kind name path → (x : Bool) → has_path bag path ≡ x → HasFile bag path
    there name path kind lists true t = has_path_is bag path t
    there name path kind lists false t = absurd (not_broken rules_of.Missing name path ((kind, lists), no_path_is bag path t))

    unless_left_out : (kind : Kind) (a : Algorithm) (name text path : List ℕ) → HasManifest bag kind a name text → ((ListsAt bag v kind name path → ⊥) → ⊥) → ListsAt bag v kind name path
    unless_left_out kind a name text path has not_left =
        let found = r.read.there kind a name text has in
        let l : Listed = listed name kind a found.0 in
        by_Bool (is_path_listed path found.0)
        (λ t. found_lists bag v ls r.read l path found.2 t)
        (λ t. absurd (not_left (λ lists. false≢true (sym t ∙ lists_found bag r.is v ls r.read l kind path found.2 lists))))

    right : (kind : Kind) (a : Algorithm) (name text path checksum content : List ℕ) → HasManifest bag kind a name text → Lists v a text path checksum → Holds bag path content → (x : Bool) → matches_of content (checksum_of a checksum) ≡ x → digest a content ≡ checksum
    right kind a name text path checksum content has lists holds true t = matches_is a content checksum t
    right kind a name text path checksum content has lists holds false t = absurd (not_broken rules_of.ChecksumWrong name path
        (kind, a, text, checksum, content, has, lists, holds, λ same. false≢true (sym t ∙ matches_again a content checksum same)))

-- ---- the rules and `bag-info.txt`, one after the other

-- the rules about what is listed have the numbers 7 to 12, and that about checksums 17
listing_numbers : Follow 7 listing_rules 13
listing_numbers = (refl, (refl, (refl, (refl, (refl, (refl, refl))))))

checksum_number : Follow 17 (rules_of.ChecksumWrong ∷ []) 18
checksum_number = (refl, refl)

-- where the rules about what is listed are found kept no fault below 13 stands
below_13 : (bag : List File) (v : Version) (ms : List Named) (ls : List Listed) → IsRead bag v ms ls → (done : Unit {0}) → obeys bag ls listing_rules ≡ Ok done → NoneBelow bag 13
below_13 bag v ms ls r done e = rules_ok bag r.is v r.declares ls r.read listing_rules 7 13 listing_numbers r.below done e

-- where judging finds no fault none stands
steps_ok : (bag : List File) (v : Version) (ms : List Named) (ls : List Listed) → IsRead bag v ms ls → (done next : Unit {0}) → obeys bag ls listing_rules ≡ Ok done → obeys_contents bag ls ≡ Ok next → (f : Fault) → Applies bag f → ⊥
steps_ok bag v ms ls r done next listing contents f stands =
    let parts = bind_ok (obeys_info bag) (λ _. obeys bag ls (rules_of.ChecksumWrong ∷ [])) next contents in
    let below_17 = info_ok bag r.is (below_13 bag v ms ls r done listing) parts.0 parts.1 in
    rules_ok bag r.is v r.declares ls r.read (rules_of.ChecksumWrong ∷ []) 17 18 checksum_number below_17 next parts.2 f ((number_range f).1) stands

-- the fault of bag-info.txt or of a checksum that judging names comes first
contents_err : (bag : List File) (v : Version) (ms : List Named) (ls : List Listed) → IsRead bag v ms ls → NoneBelow bag 13 → (f : Fault) → obeys_contents bag ls ≡ Err f → FirstFault bag f
contents_err bag v ms ls r below f e = elim (bind_err (obeys_info bag) (λ _. obeys bag ls (rules_of.ChecksumWrong ∷ [])) f e) [
  | inl e ↦ info_err bag r.is v r.declares below f e
  | inr ok ↦ rules_err bag r.is v r.declares ls r.read (rules_of.ChecksumWrong ∷ []) 17 18 checksum_number (info_ok bag r.is below ok.0 ok.1) f ok.2
]

-- ---- judging, step by step

-- what is left to judge once the rules about what is listed are kept
abbrev after_rules : List File → Version → List Listed → Result Report Fault
after_rules bag v ls = obeys_contents bag ls >>= λ _. Ok (report_of v bag)

-- once the manifests are read
abbrev after_texts : List File → Version → List Listed → Result Report Fault
after_texts bag v ls = obeys bag ls listing_rules >>= λ _. after_rules bag v ls

-- what is left to read once the manifests were found
abbrev after_names : Version → List Named → Result (List Listed) Fault
after_names v ms = some_payload ms >>= λ _. listings_of v ms

-- once there is no fetch.txt
abbrev after_fetch : List File → Version → Result Report Fault
after_fetch bag v = listings_in v bag >>= after_texts bag v

-- once the version is known
abbrev after_version : List File → Version → Result Report Fault
after_version bag v = no_fetch bag >>= λ _. after_fetch bag v

-- what judging knows once the manifests are read
read_from : (bag : List File) → IsBag bag → (v : Version) → DeclaresVersion bag v → (HasFile bag fetch_path → ⊥) → (ms : List Named) → manifests_in bag ≡ Ok ms → (done : Unit {0}) → some_payload ms ≡ Ok done → (ls : List Listed) → listings_of v ms ≡ Ok ls → IsRead bag v ms ls
read_from bag is v declares fetch ms named done some ls texts =
    let found = found_all bag ms named in
    let payload = payload_manifest ms done some in
    let read = are_listed bag is v ms ls found (all_read v ms ls texts) in
    record {
      is = is;
      declares = declares;
      fetch = fetch;
      found = found;
      payload = payload;
      read = read;
      below = below_7 bag is v declares ls (below_6 bag ms (below_5 bag ms (below_4 bag (below_3 bag is v declares) fetch) found) found payload.0 payload.1 payload.2) read;
    }

-- A bag that is judged without fault is valid, and the report is its own.
pub judged_valid : (bag : List File) → IsBag bag → (r : Report) → judge bag ≡ Ok r → (v : Version) × Valid bag v × (r ≡ report_of v bag)
judged_valid bag is r e =
    let version = bind_ok (version_declared bag) (after_version bag) r e in
    let v = version.0 in
    let fetch = bind_ok (no_fetch bag) (λ _. after_fetch bag v) r version.2 in
    let texts = bind_ok (listings_in v bag) (after_texts bag v) r fetch.2 in
    let named = bind_ok (manifests_in bag) (after_names v) texts.0 texts.1 in
    let payload = bind_ok (some_payload named.0) (λ _. listings_of v named.0) texts.0 named.2 in
    let listing = bind_ok (obeys bag texts.0 listing_rules) (λ _. after_rules bag v texts.0) r texts.2 in
    let contents = bind_ok (obeys_contents bag texts.0) (λ _. Ok (report_of v bag)) r listing.2 in
    let read = read_from bag is v (version_ok bag v version.1) (fetch_ok bag fetch.0 fetch.1) named.0 named.1 payload.0 payload.1 texts.0 payload.2 in
    (v, valid_from bag v named.0 texts.0 read (steps_ok bag v named.0 texts.0 read listing.0 contents.0 listing.1 contents.1), same_ok r (report_of v bag) (Ok (report_of v bag)) contents.2 refl)

-- The fault that judging names is the one that comes first.
pub judged_fault : (bag : List File) → IsBag bag → (f : Fault) → judge bag ≡ Err f → FirstFault bag f
judged_fault bag is f e = of_version (bind_err (version_declared bag) (after_version bag) f e)
  where
    of_contents : (v : Version) (ms : List Named) (ls : List Listed) → IsRead bag v ms ls → (done : Unit {0}) → obeys bag ls listing_rules ≡ Ok done
        → (obeys_contents bag ls ≡ Err f) ⊎ ((next : Unit {0}) × (obeys_contents bag ls ≡ Ok next) × (Ok (report_of v bag) ≡ Err f)) → FirstFault bag f
    of_contents v ms ls read done ok (inl e) = contents_err bag v ms ls read (below_13 bag v ms ls read done ok) f e
    of_contents v ms ls read done ok (inr (next, fine, e)) = absurd cc

    of_rules : (v : Version) (ms : List Named) (ls : List Listed) → IsRead bag v ms ls → (obeys bag ls listing_rules ≡ Err f) ⊎ ((done : Unit {0}) × (obeys bag ls listing_rules ≡ Ok done) × (after_rules bag v ls ≡ Err f)) → FirstFault bag f
    of_rules v ms ls read (inl e) = rules_err bag is v read.declares ls read.read listing_rules 7 13 listing_numbers read.below f e
    of_rules v ms ls read (inr (done, ok, e)) = of_contents v ms ls read done ok (bind_err (obeys_contents bag ls) (λ _. Ok (report_of v bag)) f e)

    of_texts : (v : Version) → DeclaresVersion bag v → (HasFile bag fetch_path → ⊥) → (ms : List Named) → manifests_in bag ≡ Ok ms → (done : Unit {0}) → some_payload ms ≡ Ok done → listings_of v ms ≡ Err f → FirstFault bag f
    of_texts v declares fetch ms named done some e =
        let found = found_all bag ms named in
        let payload = payload_manifest ms done some in
        texts_err bag is v declares ms f (below_6 bag ms (below_5 bag ms (below_4 bag (below_3 bag is v declares) fetch) found) found payload.0 payload.1 payload.2) found e

    of_payload : (v : Version) → DeclaresVersion bag v → (HasFile bag fetch_path → ⊥) → (ms : List Named) → manifests_in bag ≡ Ok ms
        → (some_payload ms ≡ Err f) ⊎ ((done : Unit {0}) × (some_payload ms ≡ Ok done) × (listings_of v ms ≡ Err f)) → FirstFault bag f
    of_payload v declares fetch ms named (inl e) =
        let found = found_all bag ms named in
        payload_err bag ms f (below_5 bag ms (below_4 bag (below_3 bag is v declares) fetch) found) found e
    of_payload v declares fetch ms named (inr (done, some, e)) = of_texts v declares fetch ms named done some e

    of_names : (v : Version) → DeclaresVersion bag v → (HasFile bag fetch_path → ⊥) → (manifests_in bag ≡ Err f) ⊎ ((ms : List Named) × (manifests_in bag ≡ Ok ms) × (after_names v ms ≡ Err f)) → FirstFault bag f
    of_names v declares fetch (inl e) = names_err bag is f (below_4 bag (below_3 bag is v declares) fetch) e
    of_names v declares fetch (inr (ms, named, e)) = of_payload v declares fetch ms named (bind_err (some_payload ms) (λ _. listings_of v ms) f e)

    of_listings : (v : Version) → DeclaresVersion bag v → (HasFile bag fetch_path → ⊥) → (listings_in v bag ≡ Err f) ⊎ ((ls : List Listed) × (listings_in v bag ≡ Ok ls) × (after_texts bag v ls ≡ Err f)) → FirstFault bag f
    of_listings v declares fetch (inl e) = of_names v declares fetch (bind_err (manifests_in bag) (after_names v) f e)
    of_listings v declares fetch (inr (ls, read, e)) =
        let named = bind_ok (manifests_in bag) (after_names v) ls read in
        let payload = bind_ok (some_payload named.0) (λ _. listings_of v named.0) ls named.2 in
        of_rules v named.0 ls (read_from bag is v declares fetch named.0 named.1 payload.0 payload.1 ls payload.2) (bind_err (obeys bag ls listing_rules) (λ _. after_rules bag v ls) f e)

    of_fetch : (v : Version) → DeclaresVersion bag v → (no_fetch bag ≡ Err f) ⊎ ((done : Unit {0}) × (no_fetch bag ≡ Ok done) × (after_fetch bag v ≡ Err f)) → FirstFault bag f
    of_fetch v declares (inl e) = fetch_err bag f (below_3 bag is v declares) e
    of_fetch v declares (inr (done, ok, e)) = of_listings v declares (fetch_ok bag done ok) (bind_err (listings_in v bag) (after_texts bag v) f e)

    of_version : (version_declared bag ≡ Err f) ⊎ ((v : Version) × (version_declared bag ≡ Ok v) × (after_version bag v ≡ Err f)) → FirstFault bag f
    of_version (inl e) = version_err bag f e
    of_version (inr (v, ok, e)) = of_fetch v (version_ok bag v ok) (bind_err (no_fetch bag) (λ _. after_fetch bag v) f e)

-- A valid bag is judged without fault, with its report.
pub valid_judged : (bag : List File) → IsBag bag → (v : Version) → Valid bag v → judge bag ≡ Ok (report_of v bag)
valid_judged bag is v valid = by_Result (judge bag)
    (λ report e.
    let found = judged_valid bag is report e in
    let version : found.0 ≡ v = one_version bag is found.0 v found.1.complete.declares valid.complete.declares in
    e ∙ ap (λ (x : Report). Ok x) (found.2 ∙ ap (λ (w : Version). report_of w bag) version))
    (λ f e. absurd (none_stands bag is v valid f (judged_fault bag is f e).0))

-- The fault that comes first is the one that judging names.
pub fault_judged : (bag : List File) → IsBag bag → (f : Fault) → FirstFault bag f → judge bag ≡ Err f
fault_judged bag is f first = by_Result (judge bag)
    (λ report e. let found = judged_valid bag is report e in absurd (none_stands bag is found.0 found.1 f first.0))
    (λ g e. e ∙ ap (λ (x : Fault). Err x) (one_first_fault bag is g f (judged_fault bag is g e) first))

-- A bag is valid exactly where no fault stands.
pub valid_exactly : (bag : List File) → IsBag bag → ((v : Version) × Valid bag v) ↔ ((f : Fault) → Applies bag f → ⊥)
valid_exactly bag is = (
  λ valid. none_stands bag is valid.0 valid.1,
  λ none. by_Result (judge bag)
      (λ report e. let found = judged_valid bag is report e in (found.0, found.1))
      (λ f e. absurd (none f (judged_fault bag is f e).0)),
)
