-- The fault of files, told by their paths and sizes.
use Rattle.bag_folders.proofs.Common.{◌≡◌, ◌≢◌, ℕ, zero, suc, ◌+◌, ◌<◌, ◌≤◌, Bool, true, false, ltb, leb, cond, ◌||◌, List, [], ◌∷◌, ◌++◌, length, take, map, refl, sym, ap, ap₂, subst, ◌∙◌, arith, Option, Some, None, Result, Ok, Err, bytes_eq, codes, string_bytes, list_any, position_from, sum_by, flat_map, length-append, length-take-le, sum_by-cons, is_good, comes_before, lies_under, File, IsBag, max_content, max_files, clashes, header, entry, opening, ending, set_text, option_or, Listed, PackFault, AreFilesOf, HasNoForm, IsNamedAs, listed_paths, path_at_fault, paths_found, IsFaultFound, emptied, is_too_long, with_long}
use Rattle.std.proofs.lemmas.Option.{same_Some}
use Rattle.bag_text.specs.BagList.{ListFault, file_fault, fault_from, clash_fault, list_fault}
use Rattle.bag_text.specs.declared.set_fault.SetFault.{SetFault}
use Rattle.bag_text.specs.declared.set_fault.SetFault.TheVariants.{BadEntry, PathClash, Memory}
use Rattle.bag_text.proofs.ListLemmas.{judged, list_fault_law, list_bag_law, some}
use Rattle.bag_folders.specs.declared.pack_fault.PackFault.TheVariants as packing

-- ---- one file

-- a file is judged by its path alone, where it isn't too long
same_fault : (place : ℕ) (before : List ℕ) (l : Listed) (f : File) → f.path ≡ string_bytes l.path → length f.content ≡ l.size → is_too_long l ≡ false
    → file_fault place before f ≡ file_fault place before (emptied l)
same_fault place before l f path size short =
    let a : ltb max_content (length f.content) ≡ false = rw size short in
    rw (a, path) refl

long_fault : (place : ℕ) (before : List ℕ) (l : Listed) (f : File) → length f.content ≡ l.size → is_too_long l ≡ true → file_fault place before f ≡ Some (BadEntry place)
long_fault place before l f size long =
    let a : ltb max_content (length f.content) ≡ true = rw size long in
    rw a refl

-- one file doesn't clash
one_apart : (place : ℕ) (before : List ℕ) (f : File) → file_fault place before f ≡ Some PathClash → ⊥
one_apart place before f e = by_tests (ltb max_content (length f.content)) (leb max_files place) (is_good f.path) (comes_before before f.path) e
  where
    by_tests : (long full good up : Bool) → judged place long full good up ≡ Some PathClash → ⊥
    by_tests false false true true e = absurd cc
    by_tests _ _ _ _ e = absurd cc

apart : (place : ℕ) (before : List ℕ) (files : List File) → fault_from place before files ≡ Some PathClash → ⊥
unfolding fault_from
apart place before [] e = absurd cc
apart place before (f ∷ fs) e = by_file (file_fault place before f) refl e (apart (place + 1) f.path fs)
  where
    by_file : (r : Option SetFault) → file_fault place before f ≡ r → option_or r (fault_from (place + 1) f.path fs) ≡ Some PathClash → (fault_from (place + 1) f.path fs ≡ Some PathClash → ⊥) → ⊥
    by_file (Some g) is e again = one_apart place before f (is ∙ e)
    by_file None is e again = again e

-- ---- one file after the other

-- Where none is too long, the paths alone are judged.
all_short : (place : ℕ) (before : List ℕ) (ls : List Listed) (fs : List File) → AreFilesOf ls fs → position_from is_too_long place ls ≡ None → fault_from place before fs ≡ fault_from place before (map emptied ls)
unfolding fault_from
all_short place before [] [] h e = refl
all_short place before [] (f ∷ fs) h e = absurd h
all_short place before (l ∷ ls) [] h e = absurd h
all_short place before (l ∷ ls) (f ∷ fs) h e = by_test (is_too_long l) refl e (λ e'. all_short (place + 1) f.path ls fs h.2 e')
  where
    by_test : (b : Bool) → is_too_long l ≡ b → cond b (Some place) (position_from is_too_long (place + 1) ls) ≡ None
        → (position_from is_too_long (place + 1) ls ≡ None → fault_from (place + 1) f.path fs ≡ fault_from (place + 1) f.path (map emptied ls))
        → fault_from place before (f ∷ fs) ≡ fault_from place before (map emptied (l ∷ ls))
    by_test true is e again = absurd cc
    by_test false is e again =
        let later : fault_from (place + 1) f.path fs ≡ fault_from (place + 1) (string_bytes l.path) (map emptied ls) = subst (λ (p : List ℕ). fault_from (place + 1) f.path fs ≡ fault_from (place + 1) p (map emptied ls)) h.0 (again e) in
        ap (λ (o : Option SetFault). option_or o (fault_from (place + 1) f.path fs)) (same_fault place before l f h.0 h.1 is)
        ∙ ap (option_or (file_fault place before (emptied l))) later

not_before : (place : ℕ) (ls : List Listed) (k : ℕ) → position_from is_too_long place ls ≡ Some k → place ≤ k
not_before place [] k e = absurd cc
not_before place (l ∷ ls) k e = by_test (is_too_long l) e (λ e'. not_before (place + 1) ls k e')
  where
    by_test : (b : Bool) → cond b (Some place) (position_from is_too_long (place + 1) ls) ≡ Some k → (position_from is_too_long (place + 1) ls ≡ Some k → place + 1 ≤ k) → place ≤ k
    by_test true e again = let same = same_Some place k e in omega arith
    by_test false e again = let le = again e in omega arith

-- The first that is too long is the last that is judged.
one_long : (place n : ℕ) (before : List ℕ) (ls : List Listed) (fs : List File) → AreFilesOf ls fs → position_from is_too_long place ls ≡ Some (place + n)
    → fault_from place before fs ≡ option_or (fault_from place before (map emptied (take n ls))) (Some (BadEntry (place + n)))
unfolding fault_from
one_long place n before [] fs h e = absurd cc
one_long place n before (l ∷ ls) [] h e = absurd h
one_long place n before (l ∷ ls) (f ∷ fs) h e = by_test (is_too_long l) n refl e (λ m e'. one_long (place + 1) m f.path ls fs h.2 e')
  where
    chained : (a b c : Option SetFault) → option_or a (option_or b c) ≡ option_or (option_or a b) c
    chained (Some x) b c = refl
    chained None b c = refl

    by_test : (b : Bool) (n : ℕ) → is_too_long l ≡ b → cond b (Some place) (position_from is_too_long (place + 1) ls) ≡ Some (place + n)
        → ((m : ℕ) → position_from is_too_long (place + 1) ls ≡ Some (place + 1 + m) → fault_from (place + 1) f.path fs ≡ option_or (fault_from (place + 1) f.path (map emptied (take m ls))) (Some (BadEntry (place + 1 + m))))
        → fault_from place before (f ∷ fs) ≡ option_or (fault_from place before (map emptied (take n (l ∷ ls)))) (Some (BadEntry (place + n)))
    by_test true zero is e again =
        let same : place + 0 ≡ place = omega arith in
        rw (same, long_fault place before l f h.1 is) refl
    by_test true (suc m) is e again = let same = same_Some place (place + suc m) e in absurd (omega arith)
    by_test false zero is e again = let low = not_before (place + 1) ls (place + 0) e in absurd (omega arith)
    by_test false (suc m) is e again =
        let same : place + suc m ≡ place + 1 + m = omega arith in
        let front : List File = map emptied (take m ls) in
        let later : fault_from (place + 1) f.path fs ≡ option_or (fault_from (place + 1) f.path front) (Some (BadEntry (place + 1 + m))) = again m (e ∙ ap (λ (k : ℕ). Some k) same) in
        let seen : fault_from (place + 1) f.path fs ≡ option_or (fault_from (place + 1) (string_bytes l.path) front) (Some (BadEntry (place + suc m))) =
        subst (λ (p : List ℕ). fault_from (place + 1) f.path fs ≡ option_or (fault_from (place + 1) p front) (Some (BadEntry (place + suc m)))) h.0
        (subst (λ (k : ℕ). fault_from (place + 1) f.path fs ≡ option_or (fault_from (place + 1) f.path front) (Some (BadEntry k))) (sym same) later) in
        ap (λ (o : Option SetFault). option_or o (fault_from (place + 1) f.path fs)) (same_fault place before l f h.0 h.1 is)
        ∙ ap (option_or (file_fault place before (emptied l))) seen
        ∙ chained (file_fault place before (emptied l)) (fault_from (place + 1) (string_bytes l.path) front) (Some (BadEntry (place + suc m)))

-- ---- names that clash

same_any : (test : List ℕ → Bool) (ls : List Listed) (fs : List File) → AreFilesOf ls fs → list_any (λ f. test f.path) fs ≡ list_any (λ f. test f.path) (map emptied ls)
same_any test [] [] h = refl
same_any test [] (f ∷ fs) h = absurd h
same_any test (l ∷ ls) [] h = absurd h
same_any test (l ∷ ls) (f ∷ fs) h = ap (λ (p : List ℕ). test p || list_any (λ f. test f.path) fs) h.0 ∙ ap (λ (b : Bool). test (string_bytes l.path) || b) (same_any test ls fs h.2)

any_alike : (a b : File → Bool) (fs : List File) → ((f : File) → a f ≡ b f) → list_any a fs ≡ list_any b fs
any_alike a b [] h = refl
any_alike a b (f ∷ fs) h = ap (λ (x : Bool). x || list_any a fs) (h f) ∙ ap (λ (x : Bool). b f || x) (any_alike a b fs h)

same_clashes : (ls : List Listed) (fs : List File) → AreFilesOf ls fs → clashes fs ≡ clashes (map emptied ls)
same_clashes ls fs h =
    same_any (λ p. bytes_eq p (codes "data") || list_any (λ g. lies_under p g.path) fs) ls fs h
    ∙ any_alike (λ f. bytes_eq f.path (codes "data") || list_any (λ g. lies_under f.path g.path) fs) (λ f. bytes_eq f.path (codes "data") || list_any (λ g. lies_under f.path g.path) (map emptied ls)) (map emptied ls)
    (λ f. ap (λ (b : Bool). bytes_eq f.path (codes "data") || b) (same_any (λ p. lies_under f.path p) ls fs h))

-- ---- what is judged

pub judged_short : {X : Type 0} (ls : List Listed) (fs : List File) (result : Result X SetFault) → AreFilesOf ls fs → position_from is_too_long 0 ls ≡ None → IsFaultFound (list_fault (map emptied ls)) result → IsFaultFound (list_fault fs) result
judged_short ls fs result h e j =
    let same : list_fault fs ≡ list_fault (map emptied ls) =
    ap (λ (o : Option SetFault). option_or o (clash_fault fs)) (all_short 0 [] ls fs h e)
    ∙ ap (λ (b : Bool). option_or (fault_from 0 [] (map emptied ls)) (cond b (some PathClash) None)) (same_clashes ls fs h) in
    subst (λ (o : Option SetFault). IsFaultFound o result) (sym same) j

at_long : (place : ℕ) (ls : List Listed) (fs : List File) → AreFilesOf ls fs → position_from is_too_long 0 ls ≡ Some place → fault_from 0 [] fs ≡ option_or (fault_from 0 [] (map emptied (take place ls))) (Some (BadEntry place))
at_long place ls fs h e =
    let same : 0 + place ≡ place = omega arith in
    subst (λ (k : ℕ). fault_from 0 [] fs ≡ option_or (fault_from 0 [] (map emptied (take place ls))) (Some (BadEntry k))) same (one_long 0 place [] ls fs h (e ∙ ap (λ (k : ℕ). Some k) (sym same)))

clash_only : (b : Bool) (g : SetFault) → cond b (some PathClash) None ≡ Some g → PathClash ≡ g
clash_only true g e = cc
clash_only false g e = absurd cc

-- The fault is that of the file that is too long, unless one of those before it has one.
pub judged_long : {X : Type 0} (place : ℕ) (ls : List Listed) (fs : List File) (front : Result X SetFault) → AreFilesOf ls fs → position_from is_too_long 0 ls ≡ Some place
    → IsFaultFound (list_fault (map emptied (take place ls))) front → IsFaultFound (list_fault fs) (with_long place front)
judged_long {X} place ls fs front h e j = by_front (fault_from 0 [] (map emptied (take place ls))) refl front j
  where
    here : (r : Option SetFault) → fault_from 0 [] (map emptied (take place ls)) ≡ r → list_fault fs ≡ option_or (option_or r (Some (BadEntry place))) (clash_fault fs)
    here r is = ap (λ (o : Option SetFault). option_or o (clash_fault fs)) (at_long place ls fs h e ∙ ap (λ (o : Option SetFault). option_or o (Some (BadEntry place))) is)

    apart_here : (g : SetFault) → fault_from 0 [] (map emptied (take place ls)) ≡ Some g → some g ≡ Some PathClash → ⊥
    apart_here g is same = apart 0 [] (map emptied (take place ls)) (is ∙ same)

    no_clash : (g : SetFault) → (some PathClash ≡ Some g → ⊥) → option_or None (clash_fault (map emptied (take place ls))) ≡ Some g → ⊥
    no_clash g other found = other (ap (λ (x : SetFault). some x) (clash_only (clashes (map emptied (take place ls))) g found))

    alike : (g : SetFault) (found : SetFault) → fault_from 0 [] (map emptied (take place ls)) ≡ Some g → some g ≡ Some found → list_fault fs ≡ Some found
    alike g found is same = here (Some g) is ∙ same

    by_front : (r : Option SetFault) → fault_from 0 [] (map emptied (take place ls)) ≡ r → (front : Result X SetFault) → IsFaultFound (option_or r (clash_fault (map emptied (take place ls)))) front → IsFaultFound (list_fault fs) (with_long place front)
    by_front None is (Ok x) j = here None is
    by_front (Some g) is (Ok x) j = absurd cc
    by_front None is (Err PathClash) j = here None is
    by_front (Some g) is (Err PathClash) j = absurd (apart_here g is j)
    by_front r is (Err Memory) j = tt
    by_front None is (Err found) j = absurd (no_clash found (λ e. absurd cc) j)
    by_front (Some g) is (Err found) j = alike g found is j

-- a file that was found at a place stands in the list
found_within : (place : ℕ) (ls : List Listed) (k : ℕ) → position_from is_too_long place ls ≡ Some k → k < place + length ls
found_within place [] k e = absurd cc
found_within place (l ∷ ls) k e = by_test (is_too_long l) e (λ e'. found_within (place + 1) ls k e')
  where
    by_test : (b : Bool) → cond b (Some place) (position_from is_too_long (place + 1) ls) ≡ Some k → (position_from is_too_long (place + 1) ls ≡ Some k → k < place + 1 + length ls) → k < place + length (l ∷ ls)
    by_test true e again = let same = same_Some place k e in omega arith
    by_test false e again = let lt = again e in omega arith

pub front_len : (ls : List Listed) (k : ℕ) → position_from is_too_long 0 ls ≡ Some k → k ≡ length (take k ls)
front_len ls k e = let lt = found_within 0 ls k e in sym (length-take-le k ls (omega arith))

-- ---- a list

pub judged_ok : (files set : List File) → (set ≡ files) × IsBag set → list_fault files ≡ None
judged_ok files set h = (list_bag_law files).1 (subst (λ (fs : List File). IsBag fs) h.0 h.1)

pub judged_err : (X : Type 0) (files : List File) (fault : SetFault) → (fault ≢ Memory → ListFault files fault) → IsFaultFound {X = X} (list_fault files) (Err fault)
judged_err X files Memory h = tt
judged_err X files fault h = (list_fault_law files fault).1 (h (λ e. absurd cc))

-- what is judged is the list's fault
judged_fault : (X : Type 0) (files : List File) (fault : SetFault) → IsFaultFound {X = X} (list_fault files) (Err fault) → fault ≢ Memory → ListFault files fault
judged_fault X files Memory j out = absurd (out refl)
judged_fault X files fault j out = (list_fault_law files fault).0 j

-- the list's fault, as it is named, is why there is no form
no_form : (files : List File) (fault : SetFault) (path : Option (List ℕ)) (named : PackFault) → (fault ≢ Memory → ListFault files fault)
    → path ≡ path_at_fault fault (paths_found files) → IsNamedAs fault path named → HasNoForm files named
no_form files fault path (packing.Name other) stands at is = absurd is
no_form files fault path (packing.Set found own) stands at is =
    (subst (λ (f : SetFault). ListFault files f) (sym is.0) (stands is.1), is.2 ∙ at ∙ ap (λ (f : SetFault). path_at_fault f (paths_found files)) (sym is.0))
no_form files fault path packing.Size stands at is = absurd is
no_form files fault path (packing.Device trouble) stands at is = absurd is
no_form files fault path packing.Memory stands at is = tt

same_paths : (ls : List Listed) (fs : List File) → AreFilesOf ls fs → listed_paths ls ≡ paths_found fs
same_paths [] [] h = refl
same_paths [] (f ∷ fs) h = absurd h
same_paths (l ∷ ls) [] h = absurd h
same_paths (l ∷ ls) (f ∷ fs) h = ap₂ (λ (p : List ℕ) (ps : List (List ℕ)). p ∷ ps) (sym h.0) (same_paths ls fs h.2)

-- and so it is for files that are listed
pub no_form_listed : (X : Type 0) (ls : List Listed) (files : List File) (fault : SetFault) (path : Option (List ℕ)) (named : PackFault) → AreFilesOf ls files
    → IsFaultFound {X = X} (list_fault files) (Err fault) → path ≡ path_at_fault fault (listed_paths ls) → IsNamedAs fault path named → HasNoForm files named
no_form_listed X ls files fault path named are judged at is =
    no_form files fault path named (judged_fault X files fault judged) (at ∙ ap (path_at_fault fault) (same_paths ls files are)) is

pub is_bag : (files : List File) → list_fault files ≡ None → IsBag files
is_bag files e = (list_bag_law files).0 e

-- ---- the length of the form

-- an entry is at least as long as its content
content_in_entry : (f : File) → length f.content ≤ length (entry f)
content_in_entry f =
    let head : List ℕ = header (length f.path) (length f.content) in
    let all = length-append (head ++ f.path ++ f.content) (10 ∷ []) in
    let most = length-append (head ++ f.path) f.content in
    omega arith

sizes_fit : (ls : List Listed) (fs : List File) → AreFilesOf ls fs → sum_by (λ l. l.size) ls ≤ length (flat_map entry fs)
sizes_fit [] [] h = omega arith
sizes_fit [] (f ∷ fs) h = absurd h
sizes_fit (l ∷ ls) [] h = absurd h
sizes_fit (l ∷ ls) (f ∷ fs) h =
    let later = sizes_fit ls fs h.2 in
    let here = content_in_entry f in
    let size = h.1 in
    let sum = sum_by-cons (λ (l : Listed). l.size) l ls in
    let len = length-append (entry f) (flat_map entry fs) in
    omega arith

contents_in_form : (ls : List Listed) (fs : List File) → AreFilesOf ls fs → sum_by (λ l. l.size) ls ≤ length (set_text fs)
contents_in_form ls fs h =
    let fit = sizes_fit ls fs h in
    let all = length-append (opening ++ flat_map entry fs) ending in
    let most = length-append opening (flat_map entry fs) in
    omega arith

pub longer_form : (n : ℕ) (ls : List Listed) (fs : List File) → AreFilesOf ls fs → n < sum_by (λ l. l.size) ls → n < length (set_text fs)
longer_form n ls fs h over = let fit = contents_in_form ls fs h in omega arith
