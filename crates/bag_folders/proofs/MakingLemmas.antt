-- The folders that are made for files.
use Rattle.bag_folders.proofs.Common.{◌≡◌, ◌≢◌, ◌∙◌, ◌||◌, ℕ, suc, ◌+◌, ◌<◌, ◌≤◌, Bool, false, cond, not, ◌&&◌, List, [], ◌∷◌, ◌++◌, Option, Some, None, MatchOption, get_or, length, ne_eqb, refl, sym, ap, ap₂, take, drop, take-append-drop, arith, bytes_eq, codes, filter_map, option_map, cons_option, list_any, Bor, declaration_path, is_payload, files_of, paths_found, folder_of, folders_of, needs_data}
use Rattle.std.specs.Str.Pattern.{RFindsChar}
use Rattle.std.proofs.lemmas.Str.Pattern.{NoCharPasses-char, drop_at_char}

-- a test of the paths of files that are lent
pub any_path : (test : List ℕ → Bool) (files : List (Bor (List ℕ) × Bor (List ℕ)))
    → list_any test (paths_found (files_of files)) ≡ list_any (λ (file : Bor (List ℕ) × Bor (List ℕ)). test file.0.now) files
any_path test [] = refl
any_path test (file ∷ files) = ap (λ (b : Bool). test file.0.now || b) (any_path test files)

-- ---- the folder of a path

abbrev Lacks : List ℕ → Type 0
Lacks bs = (i : ℕ) → i < length bs → get_or bs i 0 ≢ 47

no_folder : (bs : List ℕ) → Lacks bs → folder_of bs ≡ None
unfolding folder_of
no_folder [] lacks = refl
no_folder (b ∷ bs) lacks =
    rw (no_folder bs (λ i l. lacks (suc i) (omega arith)), ne_eqb b 47 (lacks 0 (omega arith))) refl

in_folder : (front back : List ℕ) → Lacks back → folder_of (front ++ 47 ∷ back) ≡ Some front
unfolding folder_of
in_folder [] back lacks = rw (no_folder back lacks) refl
in_folder (b ∷ front) back lacks = rw (in_folder front back lacks) refl

-- takes the clause of `rsplit_once` at a slash
pub folder_found : (text : List ℕ) (r : Option (Bor (List ℕ) × Bor (List ℕ)))
    → MatchOption r (RFindsChar 47 text None) (λ x. (i : ℕ) × (j : ℕ) × RFindsChar 47 text (Some (i, j)) × (x.0.now ≡ take i text) × (x.1.now ≡ drop j text) × (i ≤ j) × (length x.0.now ≡ i) × (length x.1.now + j ≡ length text))
    → option_map (λ x. x.0.now) r ≡ folder_of text
folder_found text None found = sym (no_folder text (λ i l. NoCharPasses-char 47 text i found (omega arith) l))
folder_found text (Some x) found =
    let i = found.0 in
    let j = found.1 in
    let split : text ≡ take i text ++ 47 ∷ drop j text =
    sym (take-append-drop i text) ∙ ap (λ (bs : List ℕ). take i text ++ bs) (drop_at_char 47 text i j found.2.1 (omega arith)) in
    let here = in_folder (take i text) (drop j text) (λ k l. NoCharPasses-char 47 (drop j text) k found.2.0 (omega arith) l) in
    ap (λ (bs : List ℕ). Some bs) found.3 ∙ sym (ap folder_of split ∙ here)

-- the folders in which they stand
pub folders_seen : (files : List (Bor (List ℕ) × Bor (List ℕ)))
    → filter_map (λ (file : Bor (List ℕ) × Bor (List ℕ)). folder_of file.0.now) files ≡ filter_map folder_of (paths_found (files_of files))
folders_seen [] = refl
folders_seen (file ∷ files) = ap (cons_option (folder_of file.0.now)) (folders_seen files)

-- whether a bag's files need the folder `data`, told by two tests of them
pub needs_from : (files : List (Bor (List ℕ) × Bor (List ℕ))) (declared payload result : Bool)
    → declared ≡ list_any (λ (file : Bor (List ℕ) × Bor (List ℕ)). bytes_eq file.0.now declaration_path) files
    → payload ≡ list_any (λ (file : Bor (List ℕ) × Bor (List ℕ)). is_payload file.0.now) files
    → result ≡ (declared && not payload) → result ≡ needs_data (paths_found (files_of files))
needs_from files declared payload result is_declared has_payload is =
    is ∙ ap₂ (λ (a b : Bool). a && not b) (is_declared ∙ sym (any_path (λ path. bytes_eq path declaration_path) files)) (has_payload ∙ sym (any_path is_payload files))

pub needs_none : (files : List (Bor (List ℕ) × Bor (List ℕ))) (declared : Bool) → declared ≡ list_any (λ (file : Bor (List ℕ) × Bor (List ℕ)). bytes_eq file.0.now declaration_path) files
    → declared ≡ false → declared ≡ needs_data (paths_found (files_of files))
needs_none files declared is none =
    let payload : Bool = list_any (λ (file : Bor (List ℕ) × Bor (List ℕ)). is_payload file.0.now) files in
    needs_from files declared payload declared is refl (none ∙ sym (ap (λ (b : Bool). b && not payload) none))

-- the folders that are needed, and `data`
pub all_folders : (files : List (Bor (List ℕ) × Bor (List ℕ))) (needed all : List (List ℕ)) (needs : Bool) → needs ≡ needs_data (paths_found (files_of files))
    → needed ≡ filter_map (λ (file : Bor (List ℕ) × Bor (List ℕ)). folder_of file.0.now) files → all ≡ needed ++ cond needs (codes "data" ∷ []) []
    → all ≡ folders_of (paths_found (files_of files))
all_folders files needed all needs is_needed are is =
    is ∙ ap₂ (λ (fs : List (List ℕ)) (b : Bool). fs ++ cond b (codes "data" ∷ []) []) (are ∙ folders_seen files) is_needed
