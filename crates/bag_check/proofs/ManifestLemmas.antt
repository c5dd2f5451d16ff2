-- The manifests of a bag, found and read.
use Rattle.bag_check.proofs.Common.{inl, inr, sym, ok_if, err_unless, err_through, bind_err, ◌≡◌, ℕ, ◌⊎◌, true, List, [], ◌∷◌, map, refl, ap, subst, ◌∙◌, Option, Some, None, Result, Ok, Err, ◌≢◌, list_any, comes_before, File, Version, Algorithm, LineFault, Entries, manifest_of, Kind, Payload, IsManifestName, manifest_name, is_kind, word_of, algorithm_named, Fault, UnsupportedAlgorithm, NoPayloadManifest, ManifestText, ◌>>=◌, Named, named_by, named_or_fault, named_of, with_manifest, manifests_in, some_payload, Listed, listed_or_fault, listings_of, bind_ok, same_ok, same_err, never_both, before_chain, Has, any_has, none_has, has_map}
use Rattle.bag_check.proofs.OrderLemmas.{apart, Up, Ascending, ascending_rest, later_path}
use Rattle.bag_check.proofs.BagLemmas.{paths, up_skip, at}
use Rattle.bag_check.proofs.NameLemmas.{kind_is, kind_again, name_is, no_name, one_name, algorithm_is, no_algorithm}
use Rattle.bag_text.proofs.CaseLemmas.{by_Option}

-- ---- what a file is

-- a file as a manifest of this kind and algorithm
abbrev pub as_named : File → Kind → Algorithm → Named
as_named f kind a = record { name = f.path; kind = kind; algorithm = a; text = f.content }

-- the name of a manifest of another algorithm
abbrev pub IsUnsupported : List ℕ → Type 0
IsUnsupported name = (kind : Kind) × (alg : List ℕ) × IsManifestName kind alg name × ((a : Algorithm) → alg ≢ word_of a)

-- a file is no manifest, one of a known algorithm, or one of another
data NamedView (f : File) : Type 0 where
  no_manifest : ((kind : Kind) (alg : List ℕ) → IsManifestName kind alg f.path → ⊥) → named_of f ≡ Ok None → NamedView f
  manifest : (kind : Kind) (a : Algorithm) → IsManifestName kind (word_of a) f.path → named_of f ≡ Ok (Some (as_named f kind a)) → NamedView f
  unsupported : IsUnsupported f.path → named_of f ≡ Err (UnsupportedAlgorithm f.path) → NamedView f

-- each file is one of the three
named_view : (f : File) → NamedView f
named_view f = by_Option (manifest_name f.path) (λ e. no_manifest (no_name f.path e) (ap (named_or_fault f) e)) (λ name e.
    let is = name_is f.path name.0 name.1 e in
    by_Option (algorithm_named name.1)
    (λ none. unsupported (name.0, name.1, is, no_algorithm name.1 none) (ap (named_or_fault f) e ∙ ap (named_by f name.0) none))
    (λ a some. manifest name.0 a (subst (λ (x : List ℕ). IsManifestName name.0 x f.path) (algorithm_is name.1 a some) is) (ap (named_or_fault f) e ∙ ap (named_by f name.0) some)))

-- ---- the manifests among the files

-- the names of manifests
abbrev pub names : List Named → List (List ℕ)
names ms = map (λ m. m.name) ms

-- the manifests that are found are those of the list
pub record Found (fs : List File) (ms : List Named) : Type 0 where
  pub back : (m : Named) → Has ms m → Has fs (at m.name m.text) × IsManifestName m.kind (word_of m.algorithm) m.name
  pub there : (f : File) (kind : Kind) (alg : List ℕ) → Has fs f → IsManifestName kind alg f.path → (a : Algorithm) × (alg ≡ word_of a) × Has ms (as_named f kind a)
  pub up : (before : List ℕ) → Up before (paths fs) → Up before (names ms)

-- the manifests that are found are those of the files
pub found_all : (fs : List File) (ms : List Named) → manifests_in fs ≡ Ok ms → Found fs ms
unfolding manifests_in
found_all [] ms e = subst (Found []) (same_ok [] ms (Ok []) refl e) (record {
  back = λ m h. absurd h;
  there = λ f kind alg h n. absurd h;
  up = λ before u. tt;
})
found_all (f ∷ fs) ms e =
    let one = bind_ok (named_of f) (λ found. manifests_in fs >>= λ ms. Ok (with_manifest found ms)) ms e in
    let two = bind_ok (manifests_in fs) (λ ms. Ok (with_manifest one.0 ms)) ms one.2 in
    subst (Found (f ∷ fs)) (same_ok (with_manifest one.0 two.0) ms (Ok (with_manifest one.0 two.0)) refl two.2) (by_view (named_view f) one.0 one.1 two.0 (found_all fs two.0 two.1))
  where
    skipped : ((kind : Kind) (alg : List ℕ) → IsManifestName kind alg f.path → ⊥) → (ms : List Named) → Found fs ms → (g : File) (kind : Kind) (alg : List ℕ) → (f ≡ g) ⊎ Has fs g → IsManifestName kind alg g.path → (a : Algorithm) × (alg ≡ word_of a) × Has ms (as_named g kind a)
    skipped none ms rest g kind alg (inl is) n = absurd (none kind alg (subst (λ (x : File). IsManifestName kind alg x.path) (sym is) n))
    skipped none ms rest g kind alg (inr h) n = rest.there g kind alg h n

    back_one : (kind : Kind) (a : Algorithm) → IsManifestName kind (word_of a) f.path → (ms : List Named) → Found fs ms → (m : Named) → (as_named f kind a ≡ m) ⊎ Has ms m → ((f ≡ at m.name m.text) ⊎ Has fs (at m.name m.text)) × IsManifestName m.kind (word_of m.algorithm) m.name
    back_one kind a n ms rest m (inl is) = subst (λ (x : Named). ((f ≡ at x.name x.text) ⊎ Has fs (at x.name x.text)) × IsManifestName x.kind (word_of x.algorithm) x.name) is (inl refl, n)
    back_one kind a n ms rest m (inr h) = let more = rest.back m h in (inr more.0, more.1)

    there_one : (kind : Kind) (a : Algorithm) → IsManifestName kind (word_of a) f.path → (ms : List Named) → Found fs ms → (g : File) (k : Kind) (alg : List ℕ) → (f ≡ g) ⊎ Has fs g → IsManifestName k alg g.path → (b : Algorithm) × (alg ≡ word_of b) × ((as_named f kind a ≡ as_named g k b) ⊎ Has ms (as_named g k b))
    there_one kind a n ms rest g k alg (inl is) m =
        let same = one_name g.path kind k (word_of a) alg (subst (λ (x : File). IsManifestName kind (word_of a) x.path) is n) m in
        (a, sym same.1, inl (ap (λ (x : File). as_named x kind a) is ∙ ap (λ (x : Kind). as_named g x a) same.0))
    there_one kind a n ms rest g k alg (inr h) m = let more = rest.there g k alg h m in (more.0, more.1, inr more.2)

    by_view : NamedView f → (o : Option Named) → named_of f ≡ Ok o → (ms : List Named) → Found fs ms → Found (f ∷ fs) (with_manifest o ms)
    by_view (no_manifest none is) o e ms rest = subst (λ (x : Option Named). Found (f ∷ fs) (with_manifest x ms)) (same_ok None o (named_of f) is e) (record {
      back = λ m h. let more = rest.back m h in (inr more.0, more.1);
      there = skipped none ms rest;
      up = λ before u. rest.up before (up_skip before f.path (paths fs) u);
    })
    by_view (manifest kind a n is) o e ms rest = subst (λ (x : Option Named). Found (f ∷ fs) (with_manifest x ms)) (same_ok (Some (as_named f kind a)) o (named_of f) is e) (record {
      back = back_one kind a n ms rest;
      there = there_one kind a n ms rest;
      up = λ before u. (u.0, rest.up f.path u.1);
    })
    by_view (unsupported bad is) o e ms rest = absurd (never_both o (UnsupportedAlgorithm f.path) (named_of f) e is)

-- the first manifest of another algorithm
pub record IsFirstUnsupported (fs : List File) (fault : Fault) : Type 0 where
  pub file : File
  pub is : fault ≡ UnsupportedAlgorithm file.path
  pub has : Has fs file
  pub bad : IsUnsupported file.path
  pub first : (other : File) → Has fs other → IsUnsupported other.path → comes_before other.path file.path ≡ true → ⊥

-- the manifest of another algorithm that is named is the first
pub first_unsupported : (fs : List File) (fault : Fault) → Ascending (paths fs) → manifests_in fs ≡ Err fault → IsFirstUnsupported fs fault
unfolding manifests_in
first_unsupported [] fault up e = absurd cc
first_unsupported (f ∷ fs) fault up e = elim (bind_err (named_of f) (λ found. manifests_in fs >>= λ ms. Ok (with_manifest found ms)) fault e) [
  | inl e ↦ here (named_view f) e
  | inr next ↦ more next.0 next.1 (first_unsupported fs fault (ascending_rest f.path (paths fs) up) (err_through (manifests_in fs) (with_manifest next.0) fault next.2))
]
  where
    sound : NamedView f → (o : Option Named) → named_of f ≡ Ok o → IsUnsupported f.path → ⊥
    sound (no_manifest none is) o e (kind, alg, n, other) = none kind alg n
    sound (manifest kind a n is) o e (k, alg, m, other) = other a (sym (one_name f.path kind k (word_of a) alg n m).1)
    sound (unsupported bad is) o e (k, alg, m, other) = never_both o (UnsupportedAlgorithm f.path) (named_of f) e is

    not_before : (other : File) → (f ≡ other) ⊎ Has fs other → comes_before other.path f.path ≡ true → ⊥
    not_before other (inl is) before = apart f.path (subst (λ (x : File). comes_before x.path f.path ≡ true) (sym is) before)
    not_before other (inr h) before = apart f.path (before_chain f.path other.path f.path (later_path f.path (paths fs) up other.path (has_map (λ x. x.path) fs other h)) before)

    here : NamedView f → named_of f ≡ Err fault → IsFirstUnsupported (f ∷ fs) fault
    here (no_manifest none is) e = absurd (never_both None fault (named_of f) is e)
    here (manifest kind a n is) e = absurd (never_both (Some (as_named f kind a)) fault (named_of f) is e)
    here (unsupported bad is) e = record { file = f; is = same_err fault (UnsupportedAlgorithm f.path) (named_of f) e is; has = inl refl; bad = bad; first = λ other h b before. not_before other h before }

    more : (o : Option Named) → named_of f ≡ Ok o → IsFirstUnsupported fs fault → IsFirstUnsupported (f ∷ fs) fault
    more o e rest = record { file = rest.file; is = rest.is; has = inr rest.has; bad = rest.bad; first = λ other h b before. of_other other h b before }
      where
        of_other : (other : File) → (f ≡ other) ⊎ Has fs other → IsUnsupported other.path → comes_before other.path rest.file.path ≡ true → ⊥
        of_other other (inl is) b before = sound (named_view f) o e (subst (λ (x : File). IsUnsupported x.path) (sym is) b)
        of_other other (inr h) b before = rest.first other h b before

-- ---- some payload manifest

-- where one is said to be there, there is one
pub payload_manifest : (ms : List Named) (done : Unit {0}) → some_payload ms ≡ Ok done → (m : Named) × Has ms m × (m.kind ≡ Payload)
payload_manifest ms done e =
    let some = any_has (λ (m : Named). is_kind Payload m.kind) ms (ok_if (list_any (λ m. is_kind Payload m.kind) ms) (Ok tt) NoPayloadManifest done e).0 in
    (some.0, some.1, kind_is Payload some.0.kind some.2)

-- where none is said to be there, there is none
pub no_payload_manifest : (ms : List Named) (fault : Fault) → some_payload ms ≡ Err fault → (fault ≡ NoPayloadManifest) × ((m : Named) → Has ms m → m.kind ≡ Payload → ⊥)
no_payload_manifest ms fault e =
    let none = err_unless (list_any (λ m. is_kind Payload m.kind) ms) tt NoPayloadManifest fault e in
    (sym none.1, λ m h is. none_has (λ (m : Named). is_kind Payload m.kind) ms m none.0 h (kind_again Payload m.kind is))

-- ---- the manifests, read

-- a manifest with its entries
abbrev pub as_listed : Named → Entries → Listed
as_listed m es = record { name = m.name; kind = m.kind; algorithm = m.algorithm; entries = es }

-- what reading a manifest's text gives
abbrev pub read_of : Version → Named → Result Entries LineFault
read_of v m = manifest_of v m.algorithm m.text

-- the names of manifests that are read
abbrev pub list_names : List Listed → List (List ℕ)
list_names ls = map (λ l. l.name) ls

-- each manifest is read
pub record AreRead (v : Version) (ms : List Named) (ls : List Listed) : Type 0 where
  pub names_are : list_names ls ≡ names ms
  pub back : (l : Listed) → Has ls l → (m : Named) × (es : Entries) × Has ms m × (read_of v m ≡ Ok es) × (as_listed m es ≡ l)
  pub there : (m : Named) → Has ms m → (es : Entries) × (read_of v m ≡ Ok es) × Has ls (as_listed m es)

-- a manifest that is taken was read
listed_ok : (m : Named) (r : Result Entries LineFault) (l : Listed) → listed_or_fault m r ≡ Ok l → (es : Entries) × (r ≡ Ok es) × (as_listed m es ≡ l)
listed_ok m (Ok es) l e = (es, refl, same_ok (as_listed m es) l (listed_or_fault m (Ok es)) refl e)
listed_ok m (Err f) l e = absurd cc

-- a manifest that is refused has a fault in its text
listed_err : (m : Named) (r : Result Entries LineFault) (fault : Fault) → listed_or_fault m r ≡ Err fault → (f : LineFault) × (r ≡ Err f) × (fault ≡ ManifestText m.name f)
listed_err m (Ok es) fault e = absurd cc
listed_err m (Err f) fault e = (f, refl, same_err fault (ManifestText m.name f) (listed_or_fault m (Err f)) e refl)

-- the manifests that are read are those that were found
pub all_read : (v : Version) (ms : List Named) (ls : List Listed) → listings_of v ms ≡ Ok ls → AreRead v ms ls
unfolding listings_of
all_read v [] ls e = subst (AreRead v []) (same_ok [] ls (Ok []) refl e) (record { names_are = refl; back = λ l h. absurd h; there = λ m h. absurd h })
all_read v (m ∷ ms) ls e =
    let one = bind_ok (listed_or_fault m (read_of v m)) (λ l. listings_of v ms >>= λ ls. Ok (l ∷ ls)) ls e in
    let two = bind_ok (listings_of v ms) (λ ls. Ok (one.0 ∷ ls)) ls one.2 in
    let read = listed_ok m (read_of v m) one.0 one.1 in
    subst (AreRead v (m ∷ ms)) (same_ok (one.0 ∷ two.0) ls (Ok (one.0 ∷ two.0)) refl two.2)
    (subst (λ (x : Listed). AreRead v (m ∷ ms) (x ∷ two.0)) read.2 (onto_rest read.0 read.1 two.0 (all_read v ms two.0 two.1)))
  where
    onto_rest : (es : Entries) → read_of v m ≡ Ok es → (ls : List Listed) → AreRead v ms ls → AreRead v (m ∷ ms) (as_listed m es ∷ ls)
    onto_rest es e ls rest = record {
      names_are = ap (λ (x : List (List ℕ)). m.name ∷ x) rest.names_are;
      back = λ l h. of_list l h;
      there = λ n h. of_manifest n h;
    }
      where
        of_list : (l : Listed) → (as_listed m es ≡ l) ⊎ Has ls l → (n : Named) × (fs : Entries) × ((m ≡ n) ⊎ Has ms n) × (read_of v n ≡ Ok fs) × (as_listed n fs ≡ l)
        of_list l (inl is) = (m, es, inl refl, e, is)
        of_list l (inr h) = let more = rest.back l h in (more.0, more.1, inr more.2, more.3, more.4)

        of_manifest : (n : Named) → (m ≡ n) ⊎ Has ms n → (fs : Entries) × (read_of v n ≡ Ok fs) × ((as_listed m es ≡ as_listed n fs) ⊎ Has ls (as_listed n fs))
        of_manifest n (inl is) = (es, ap (read_of v) (sym is) ∙ e, inl (ap (λ (x : Named). as_listed x es) is))
        of_manifest n (inr h) = let more = rest.there n h in (more.0, more.1, inr more.2)

-- the first manifest that is refused
pub record IsFirstRefused (v : Version) (ms : List Named) (fault : Fault) : Type 0 where
  pub manifest : Named
  pub cause : LineFault
  pub is : fault ≡ ManifestText manifest.name cause
  pub has : Has ms manifest
  pub refused : read_of v manifest ≡ Err cause
  pub first : (other : Named) (f : LineFault) → Has ms other → read_of v other ≡ Err f → comes_before other.name manifest.name ≡ true → ⊥

-- the manifest that is named as refused is the first
pub first_refused : (v : Version) (ms : List Named) (fault : Fault) → Ascending (names ms) → listings_of v ms ≡ Err fault → IsFirstRefused v ms fault
unfolding listings_of
first_refused v [] fault up e = absurd cc
first_refused v (m ∷ ms) fault up e = elim (bind_err (listed_or_fault m (read_of v m)) (λ l. listings_of v ms >>= λ ls. Ok (l ∷ ls)) fault e) [
  | inl e ↦ here e
  | inr next ↦ more next.0 next.1 (first_refused v ms fault (ascending_rest m.name (names ms) up) (err_through (listings_of v ms) (λ ls. next.0 ∷ ls) fault next.2))
]
  where
    not_before : (other : Named) → (m ≡ other) ⊎ Has ms other → comes_before other.name m.name ≡ true → ⊥
    not_before other (inl is) before = apart m.name (subst (λ (x : Named). comes_before x.name m.name ≡ true) (sym is) before)
    not_before other (inr h) before = apart m.name (before_chain m.name other.name m.name (later_path m.name (names ms) up other.name (has_map (λ x. x.name) ms other h)) before)

    here : listed_or_fault m (read_of v m) ≡ Err fault → IsFirstRefused v (m ∷ ms) fault
    here e =
        let cause = listed_err m (read_of v m) fault e in
        record { manifest = m; cause = cause.0; is = cause.2; has = inl refl; refused = cause.1; first = λ other f h r before. not_before other h before }

    more : (l : Listed) → listed_or_fault m (read_of v m) ≡ Ok l → IsFirstRefused v ms fault → IsFirstRefused v (m ∷ ms) fault
    more l e rest = record { manifest = rest.manifest; cause = rest.cause; is = rest.is; has = inr rest.has; refused = rest.refused; first = λ other f h r before. of_other other f h r before }
      where
        of_other : (other : Named) (f : LineFault) → (m ≡ other) ⊎ Has ms other → read_of v other ≡ Err f → comes_before other.name rest.manifest.name ≡ true → ⊥
        of_other other f (inl is) r before =
            let read = listed_ok m (read_of v m) l e in
            never_both read.0 f (read_of v other) (ap (read_of v) (sym is) ∙ read.1) r
        of_other other f (inr h) r before = rest.first other f h r before
