-- Reading and judging, item after item.
use Rattle.bag_check.proofs.FirstLemmas.{inl, inr, cases_Bool, ◌≡◌, ℕ, zero, suc, ◌+◌, ◌*◌, ◌<◌, ◌≤◌, Bool, true, false, cond, not, ◌&&◌, ◌||◌, List, [], ◌∷◌, ◌++◌, length, slice_index_or as get_or, drop, map, filter, refl, sym, ap, ◌∙◌, arith, append_assoc, Option, Some, None, Result, Ok, Err, sum_by, is_some, option_and_then, codes, decimal, cow_str_bytes, list_any, count_by, AllByRecursion, append-nil, drop_more, length-map, and_parts, nat_tests, File, Fits, max_content, Version, entry_in, is_path_listed, manifest_of, Pair, CodePair, pair_in, pairs_of, Rule, Kind, Algorithm, is_payload, payload_of, manifest_name, algorithm_named, is_oxum, oxums_of, payload_files, payload_bytes, manifest_count, Report, Fault, UnsupportedAlgorithm, ManifestText, Breaks, rule_number, number_or, manifest_in, path_in, after_space, cause_or, text_or, ◌>>=◌, FailsAs, Named, Listed, named_of, with_manifest, manifests_in, listed_or_fault, listings_of, asks_for, first_unlisted, first_in, first_breach, obeyed_by, named_by, named_or_fault, version_declared, no_fetch, some_payload, listings_in, obeys, listing_rules, obeys_contents, judge, bind_ok, fronted, again_onto, nothing_onto, nat_lt, digits, nat_cmp, sum-map, sum_by-cons, percent_encode, Manifest, is_escaped, printed_text, printed_byte, all_read}
use Rattle.std.specs.Cmp.Lexicographic.{slice_cmp}
use Rattle.std.specs.BTreeMap.{is_at}
use Rattle.std.specs.Map.{lookup}
use Rattle.std.specs.declared.borrow.CowStr.{CowStr}
use Rattle.std.specs.Global.{Global}
use Rattle.std.proofs.lemmas.List.Recursion.{is_count_by}
use Rattle.percent_encoding.specs.declared.ascii_set.AsciiSet.{AsciiSet}
use Rattle.percent_encoding.specs.AsciiSet.{should_percent_encode}
use Rattle.bag_text.specs.declared.listing.Listing.{Listing}
use Rattle.bag_text.proofs.CaseLemmas.{by_Bool, by_Option}

-- ---- bytes that are printed as escapes

-- a test passes at each number below this one
all_below : (ℕ → Bool) → ℕ → Bool
all_below test zero = true
all_below test (suc n) = test n && all_below test n

-- what passes at each number below passes at one of them
at_each : (test : ℕ → Bool) (n : ℕ) → all_below test n ≡ true → (k : ℕ) → k < n → test k ≡ true
unfolding all_below
at_each test zero h k lt = absurd (omega arith)
at_each test (suc n) h k lt =
    let parts = and_parts (test n) (all_below test n) h in by_Bool (nat_lt k n)
    (λ e. at_each test n parts.1 k (grind (arith, nat_tests)))
    (λ e. let is : n ≡ k = grind (arith, nat_tests) in ap test (sym is) ∙ parts.0)

-- whether two truths are one
same : Bool → Bool → Bool
same true y = y
same false y = not y

-- and then they are
same_is : (x y : Bool) → same x y ≡ true → x ≡ y
unfolding same
same_is true true h = refl
same_is true false h = absurd cc
same_is false true h = absurd cc
same_is false false h = refl

-- the set of the bytes below 128 that are escaped
abbrev escaped_set : AsciiSet
escaped_set = record { mask = 170141183460469231731687303861912993791 }

-- it has just those bytes below 128
below : all_below (λ b. same (should_percent_encode escaped_set b) (is_escaped b)) 128 ≡ true
unfolding all_below same should_percent_encode
below = refl

-- every byte above is escaped
above : (b : ℕ) → 128 ≤ b → should_percent_encode escaped_set b ≡ is_escaped b
unfolding should_percent_encode
above b h = grind (arith, nat_tests)

-- the set has just the bytes that are escaped
pub escapes : (b : ℕ) → should_percent_encode escaped_set b ≡ is_escaped b
escapes b = by_Bool (nat_lt b 128)
    (λ e. same_is (should_percent_encode escaped_set b) (is_escaped b) (at_each (λ k. same (should_percent_encode escaped_set k) (is_escaped k)) 128 below b (grind (arith, nat_tests))))
    (λ e. above b (grind (arith, nat_tests)))

-- what such a set encodes is what is printed
pub encodes : (set : AsciiSet) → ((b : ℕ) → should_percent_encode set b ≡ is_escaped b) → (bs : List ℕ) → percent_encode set bs ≡ printed_text bs
unfolding percent_encode
encodes set h [] = refl
encodes set h (b ∷ bs) = rw (h b) (ap (λ (t : List ℕ). printed_byte b ++ t) (encodes set h bs))

-- texts in a row
placed : (front number space name path : List ℕ) → front ++ (number ++ ((space ++ name) ++ (space ++ path))) ++ [] ≡ front ++ number ++ space ++ name ++ space ++ path
placed front number space name path = simp (append_assoc, append-nil)

-- a fault is printed part by part
pub printed_parts : (fault : Option Fault) → codes "B" ++ (decimal (number_or fault) ++ (after_space (option_and_then manifest_in fault) ++ after_space (option_and_then path_in fault))) ++ cause_or fault ≡ text_or fault
unfolding digits
printed_parts (Some (UnsupportedAlgorithm name)) = simp append-nil
printed_parts (Some (ManifestText name f)) = simp append_assoc
printed_parts (Some (Breaks rule name path)) = placed (codes "B") (decimal (rule_number rule)) (codes " ") (printed_text name) (printed_text path)
printed_parts _ = refl

-- ---- manifests, file after file

-- a file whose name is refused refuses all of them
pub manifests_fail : (front : List Named) (fs more : List File) (f : File) (fault : Option Fault) (total : Result (List Named) Fault)
    → fs ≡ f ∷ more → FailsAs fault (named_of f) → fronted front (manifests_in fs) ≡ total → FailsAs fault total
unfolding manifests_in
manifests_fail front fs more f None total is e so_far = tt
manifests_fail front fs more f (Some x) total is e so_far =
    let one : fronted front (manifests_in (f ∷ more)) ≡ Err x = rw e refl in
    sym so_far ∙ ap (λ (gs : List File). fronted front (manifests_in gs)) is ∙ one

-- a file that is no manifest
pub manifests_skip : (front : List Named) (fs more : List File) (f : File) (total : Result (List Named) Fault)
    → fs ≡ f ∷ more → named_of f ≡ Ok None → fronted front (manifests_in fs) ≡ total → fronted front (manifests_in more) ≡ total
unfolding manifests_in
manifests_skip front fs more f total is e so_far = sym one ∙ ap (λ (gs : List File). fronted front (manifests_in gs)) (sym is) ∙ so_far
  where
    same_again : (r : Result (List Named) Fault) → (r >>= λ ms. Ok (with_manifest None ms)) ≡ r
    same_again (Ok ms) = refl
    same_again (Err x) = refl

    one : fronted front (manifests_in (f ∷ more)) ≡ fronted front (manifests_in more)
    one = rw e (ap (fronted front) (same_again (manifests_in more)))

-- a file that is a manifest
pub manifests_take : (front now : List Named) (fs more : List File) (f : File) (m : Named) (total : Result (List Named) Fault)
    → fs ≡ f ∷ more → named_of f ≡ Ok (Some m) → now ≡ front ++ m ∷ [] → fronted front (manifests_in fs) ≡ total → fronted now (manifests_in more) ≡ total
unfolding manifests_in
manifests_take front now fs more f m total is e then so_far =
    let one : fronted front (manifests_in (f ∷ more)) ≡ fronted (front ++ m ∷ []) (manifests_in more) = rw e (again_onto front m (manifests_in more)) in
    rw then (sym one ∙ ap (λ (gs : List File). fronted front (manifests_in gs)) (sym is) ∙ so_far)

-- no file is left
pub manifests_done : (front : List Named) (fs : List File) (total : Result (List Named) Fault) → fs ≡ [] → fronted front (manifests_in fs) ≡ total → total ≡ Ok front
unfolding manifests_in
manifests_done front fs total is so_far = sym so_far ∙ ap (λ (gs : List File). fronted front (manifests_in gs)) is ∙ nothing_onto front

-- ---- listings, manifest after manifest

-- a manifest whose text is refused refuses all of them
pub listings_fail : (v : Version) (front : List Listed) (ms more : List Named) (m : Named) (fault : Option Fault) (total : Result (List Listed) Fault)
    → ms ≡ m ∷ more → FailsAs fault (listed_or_fault m (manifest_of v m.algorithm m.text)) → fronted front (listings_of v ms) ≡ total → FailsAs fault total
unfolding listings_of
listings_fail v front ms more m None total is e so_far = tt
listings_fail v front ms more m (Some x) total is e so_far =
    let one : fronted front (listings_of v (m ∷ more)) ≡ Err x = rw e refl in
    sym so_far ∙ ap (λ (ns : List Named). fronted front (listings_of v ns)) is ∙ one

-- a manifest that is read
pub listings_take : (v : Version) (front now : List Listed) (ms more : List Named) (m : Named) (l : Listed) (total : Result (List Listed) Fault)
    → ms ≡ m ∷ more → listed_or_fault m (manifest_of v m.algorithm m.text) ≡ Ok l → now ≡ front ++ l ∷ [] → fronted front (listings_of v ms) ≡ total → fronted now (listings_of v more) ≡ total
unfolding listings_of
listings_take v front now ms more m l total is e then so_far =
    let one : fronted front (listings_of v (m ∷ more)) ≡ fronted (front ++ l ∷ []) (listings_of v more) = rw e (again_onto front l (listings_of v more)) in
    rw then (sym one ∙ ap (λ (ns : List Named). fronted front (listings_of v ns)) (sym is) ∙ so_far)

-- no manifest is left
pub listings_done : (v : Version) (front : List Listed) (ms : List Named) (total : Result (List Listed) Fault) → ms ≡ [] → fronted front (listings_of v ms) ≡ total → total ≡ Ok front
unfolding listings_of
listings_done v front ms total is so_far = sym so_far ∙ ap (λ (ns : List Named). fronted front (listings_of v ns)) is ∙ nothing_onto front

-- ---- places

-- the first file that a rule asks for and a manifest doesn't list
abbrev pub unlisted : Rule → Manifest → List File → Option (List ℕ)
unlisted rule manifest files = first_unlisted files rule (map entry_in manifest.entries.entries)

-- whether a manifest lists a file's path
abbrev is_its : Manifest → File → Bool
is_its manifest f = is_path_listed f.path (map entry_in manifest.entries.entries)

-- a file that the rule asks for and the manifest doesn't list
pub unlisted_here : (rule : Rule) (manifest : Manifest) (fs more : List File) (f : File) (total : Option (List ℕ)) → fs ≡ f ∷ more → asks_for rule f.path ≡ true → is_its manifest f ≡ false → unlisted rule manifest fs ≡ total → Some f.path ≡ total
unlisted_here rule manifest fs more f total is asks not_its so_far =
    let one : unlisted rule manifest (f ∷ more) ≡ Some f.path = rw (asks, not_its) refl in
    sym one ∙ ap (unlisted rule manifest) (sym is) ∙ so_far

-- a file that the rule doesn't ask for
pub unlisted_passed : (rule : Rule) (manifest : Manifest) (fs more : List File) (f : File) (total : Option (List ℕ)) → fs ≡ f ∷ more → asks_for rule f.path ≡ false → unlisted rule manifest fs ≡ total → unlisted rule manifest more ≡ total
unlisted_passed rule manifest fs more f total is asks so_far =
    let one : unlisted rule manifest (f ∷ more) ≡ unlisted rule manifest more = rw asks refl in
    sym one ∙ ap (unlisted rule manifest) (sym is) ∙ so_far

-- a file that the manifest lists
pub unlisted_listed : (rule : Rule) (manifest : Manifest) (fs more : List File) (f : File) (total : Option (List ℕ)) → fs ≡ f ∷ more → asks_for rule f.path ≡ true → is_its manifest f ≡ true → unlisted rule manifest fs ≡ total → unlisted rule manifest more ≡ total
unlisted_listed rule manifest fs more f total is asks its so_far =
    let one : unlisted rule manifest (f ∷ more) ≡ unlisted rule manifest more = rw (asks, its) refl in
    sym one ∙ ap (unlisted rule manifest) (sym is) ∙ so_far

-- a path is found by its bytes
pub found_by_bytes : (es : List (CowStr Global × Listing)) (path : List ℕ) → is_some (lookup (is_at (λ k. slice_cmp nat_cmp path (cow_str_bytes k))) es) ≡ is_path_listed path (map entry_in es)
found_by_bytes [] path = refl
found_by_bytes (e ∷ es) path =
    elim (cases_Bool (is_at (slice_cmp nat_cmp path) (cow_str_bytes e.0))) [ inl is ↦ rw is refl | inr is ↦ rw is (found_by_bytes es path) ]

-- what is left of a list begins with the next item
pub next_item : {A : Type 0} (xs : List A) (i : ℕ) (x : A) → i < length xs → x ≡ get_or xs i x → drop i xs ≡ x ∷ drop (i + 1) xs
next_item {A = A} xs i x lt is = drop_more xs i x lt ∙ ap (λ (y : A). y ∷ drop (i + 1) xs) (sym is)

-- a manifest that breaks the rule
pub place_found : (bag : List File) (rule : Rule) (ls more : List Listed) (l : Listed) (path : List ℕ) (total : Option (List ℕ × List ℕ)) → ls ≡ l ∷ more → first_in bag rule l ≡ Some path → first_breach bag rule ls ≡ total → Some (l.name, path) ≡ total
unfolding first_breach
place_found bag rule ls more l path total is e so_far =
    let one : first_breach bag rule (l ∷ more) ≡ Some (l.name, path) = rw e refl in
    sym one ∙ ap (first_breach bag rule) (sym is) ∙ so_far

-- a manifest that keeps the rule
pub place_later : (bag : List File) (rule : Rule) (ls more : List Listed) (l : Listed) (total : Option (List ℕ × List ℕ)) → ls ≡ l ∷ more → first_in bag rule l ≡ None → first_breach bag rule ls ≡ total → first_breach bag rule more ≡ total
unfolding first_breach
place_later bag rule ls more l total is e so_far =
    let one : first_breach bag rule (l ∷ more) ≡ first_breach bag rule more = rw e refl in
    sym one ∙ ap (first_breach bag rule) (sym is) ∙ so_far

-- no manifest is left
pub place_none : (bag : List File) (rule : Rule) (ls : List Listed) (total : Option (List ℕ × List ℕ)) → ls ≡ [] → first_breach bag rule ls ≡ total → None ≡ total
unfolding first_breach
place_none bag rule ls total is so_far = sym (ap (first_breach bag rule) is) ∙ so_far

-- ---- rules, one after the other

-- the rules from a place on begin with the one that stands there
pub keeps_from : (bag : List File) (ls : List Listed) (rules : List Rule) (i : ℕ) (none : Rule) (total : Result (Unit {0}) Fault) → i < length rules → obeys bag ls (drop i rules) ≡ total
    → (obeyed_by (get_or rules i none) (first_breach bag (get_or rules i none) ls) >>= λ _. obeys bag ls (drop (i + 1) rules)) ≡ total
unfolding obeys
keeps_from bag ls rules i none total lt so_far = sym (ap (obeys bag ls) (drop_more rules i none lt)) ∙ so_far

-- ---- the values of `Payload-Oxum`

-- a test of the values of the pairs that are a Payload-Oxum
pub any_oxum : (test : List ℕ → Bool) (kept : List CodePair) → list_any test (oxums_of (pairs_of kept)) ≡ list_any (λ k. is_oxum (pair_in k) && test (cow_str_bytes k.1)) kept
any_oxum test [] = refl
any_oxum test (k ∷ ks) = elim (cases_Bool (is_oxum (pair_in k))) [
  | inl is ↦ rw is (ap (λ (b : Bool). test (cow_str_bytes k.1) || b) (any_oxum test ks))
  | inr is ↦ rw is (any_oxum test ks)
]

-- how many there are
abbrev oxum_count : List CodePair → ℕ
oxum_count kept = length (oxums_of (pairs_of kept))

pub count_oxums : (kept : List CodePair) → oxum_count kept ≡ count_by (λ k. is_oxum (pair_in k)) kept
count_oxums kept = is_count_by oxum_count (λ k. is_oxum (pair_in k)) refl (λ k ks. by_label k ks (is_oxum (pair_in k))) kept
  where
    by_label : (k : CodePair) (ks : List CodePair) (x : Bool) → length (map (λ (pair : Pair). pair.value) (cond x (pair_in k ∷ filter is_oxum (pairs_of ks)) (filter is_oxum (pairs_of ks)))) ≡ cond x (1 + oxum_count ks) (oxum_count ks)
    by_label k ks true = omega arith
    by_label k ks false = refl

-- ---- counts

-- a test of what things are seen as
pub any_map : {A B : Type 0} (view : A → B) (test : B → Bool) (xs : List A) → list_any test (map view xs) ≡ list_any (λ x. test (view x)) xs
any_map view test [] = refl
any_map view test (x ∷ xs) = ap (λ (b : Bool). test (view x) || b) (any_map view test xs)

-- the bytes of a file
abbrev pub size : File → ℕ
size f = length f.content

-- the bytes of the payload are the sum of their sizes
pub bytes_by : (fs : List File) → payload_bytes fs ≡ sum_by size (payload_of fs)
bytes_by fs = sum-map size (payload_of fs)

-- a payload file is counted
pub count_take : (fs more : List File) (f : File) → fs ≡ f ∷ more → is_payload f.path ≡ true → (payload_files fs ≡ payload_files more + 1) × (payload_bytes fs ≡ length f.content + payload_bytes more)
count_take fs more f is e =
    let one : payload_of fs ≡ f ∷ payload_of more = ap payload_of is ∙ rw e refl in
    (ap length one ∙ omega arith, bytes_by fs ∙ ap (sum_by size) one ∙ sum_by-cons size f (payload_of more) ∙ ap (λ (n : ℕ). length f.content + n) (sym (bytes_by more)))

-- there are no more payload files than files
pub few_payload : (fs : List File) → payload_files fs ≤ length fs
few_payload [] = omega arith
few_payload (f ∷ fs) =
    let h = few_payload fs in elim (cases_Bool (is_payload f.path)) [ inl is ↦ rw is (omega arith) | inr is ↦ rw is (omega arith) ]

-- each of them has at most the most bytes
small_all : (fs : List File) → AllByRecursion Fits fs → sum_by size (payload_of fs) ≤ max_content * length fs
small_all [] each = omega arith
small_all (f ∷ fs) each =
    let small = each.0.small in let rest = small_all fs each.1 in
    by_Bool (is_payload f.path) (λ is. rw (is, sum_by-cons size f (payload_of fs)) (omega arith)) (λ is. rw is (omega arith))

-- the bytes of a payload are bounded
pub small_payload : (fs : List File) → AllByRecursion Fits fs → payload_bytes fs ≤ max_content * length fs
small_payload fs each = rw (bytes_by fs) (small_all fs each)

-- as many manifests are found as there are
pub manifests_counted : (bag : List File) (ms : List Named) → manifests_in bag ≡ Ok ms → length ms ≡ manifest_count bag
unfolding manifests_in
manifests_counted [] ms e = let is : ms ≡ [] = cc in ap length is
manifests_counted (f ∷ fs) ms e = by_name (manifest_name f.path) refl (λ rest h. manifests_counted fs rest h) e
  where
    by_rest : (o : Option Named) (r : Result (List Named) Fault) → (r >>= λ ns. Ok (with_manifest o ns)) ≡ Ok ms → ((rest : List Named) → r ≡ Ok rest → length rest ≡ manifest_count fs) → (rest : List Named) × (ms ≡ with_manifest o rest) × (length rest ≡ manifest_count fs)
    by_rest o (Ok rest) e again = (rest, (let is : with_manifest o rest ≡ ms = cc in sym is), again rest refl)
    by_rest o (Err x) e again = absurd cc

    by_algorithm : (kind : Kind) (a : Option Algorithm) → manifest_count (f ∷ fs) ≡ suc (manifest_count fs) → ((rest : List Named) → manifests_in fs ≡ Ok rest → length rest ≡ manifest_count fs) → (named_by f kind a >>= λ found. manifests_in fs >>= λ ns. Ok (with_manifest found ns)) ≡ Ok ms → length ms ≡ manifest_count (f ∷ fs)
    by_algorithm kind None counts again e = absurd cc
    by_algorithm kind (Some a) counts again e =
        let p = by_rest (Some (record { name = f.path; kind = kind; algorithm = a; text = f.content })) (manifests_in fs) e again in
        ap length p.1 ∙ ap suc p.2 ∙ sym counts

    by_name : (o : Option (Kind × List ℕ)) → manifest_name f.path ≡ o → ((rest : List Named) → manifests_in fs ≡ Ok rest → length rest ≡ manifest_count fs) → (named_or_fault f o >>= λ found. manifests_in fs >>= λ ns. Ok (with_manifest found ns)) ≡ Ok ms → length ms ≡ manifest_count (f ∷ fs)
    by_name None is again e =
        let p = by_rest None (manifests_in fs) e again in
        let counts : manifest_count (f ∷ fs) ≡ manifest_count fs = rw is refl in
        ap length p.1 ∙ p.2 ∙ sym counts
    by_name (Some found) is again e =
        let counts : manifest_count (f ∷ fs) ≡ suc (manifest_count fs) = rw is refl in
        by_algorithm found.0 (algorithm_named found.1) counts again e

-- and as many are read
listings_counted : (bag : List File) (v : Version) (ls : List Listed) → listings_in v bag ≡ Ok ls → length ls ≡ manifest_count bag
listings_counted bag v ls e =
    let found = bind_ok (manifests_in bag) (λ ms. some_payload ms >>= λ _. listings_of v ms) ls e in
    let some = bind_ok (some_payload found.0) (λ _. listings_of v found.0) ls found.2 in
    sym (length-map ls _) ∙ ap length (all_read v found.0 ls some.2).names_are ∙ length-map found.0 _ ∙ manifests_counted bag found.0 found.1

-- the verdict on a bag of which no step names a fault
pub judged : (bag : List File) (v : Version) (unit : Unit {0}) (ls : List Listed) (r : Report)
    → version_declared bag ≡ Ok v → no_fetch bag ≡ Ok unit → listings_in v bag ≡ Ok ls → obeys bag ls listing_rules ≡ Ok unit → obeys_contents bag ls ≡ Ok unit
    → r ≡ record { version = v; files = payload_files bag; bytes = payload_bytes bag; manifests = length ls } → judge bag ≡ Ok r
judged bag v unit ls r version fetch read kept contents is =
    rw (version, fetch, read, kept, contents) (ap (λ (x : Report). Ok x) (sym (is ∙ ap (λ (n : ℕ). record { version = v; files = payload_files bag; bytes = payload_bytes bag; manifests = n }) (listings_counted bag v ls read))))
