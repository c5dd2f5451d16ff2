-- Making a bag of a list of files.
use Rattle.bag_text.proofs.FirstLemmas.{◌≡◌, ◌≢◌, ℕ, ◌+◌, ◌<◌, ◌≤◌, Bool, true, false, not, List, [], length, get_or, drop, map, refl, sym, ap, subst, ◌∙◌, arith, Option, Some, None, is_some, IfOk, IfErr, option_or, is_utf8, drop_more, at_drop_all, SetFault, Memory, is_good, path_fault, File, Ascends, IsBag, Answers, named_set_fault, ListFault, file_fault, fault_from, list_fault, Result, Ok, Err, PathFault, err_is}
use Rattle.bag_text.specs.ListReading.{Makes}
use Rattle.bag_text.proofs.ListLemmas.{from_none, list_fault_law, list_bag_law}
use Rattle.bag_text.proofs.CaseLemmas.{by_Option}

-- ---- one file after the other

-- A text is a good path where no fault of a path stands.
pub text_is_good : (path : List ℕ) (found : Option PathFault) (none : Bool) → is_utf8 path ≡ true → found ≡ path_fault path → is_some found ≡ not none → none ≡ is_good path
text_is_good path (Some f) true utf8 e test = absurd cc
text_is_good path (Some f) false utf8 e test = rw (utf8, ← e) refl
text_is_good path None true utf8 e test = rw (utf8, ← e) refl
text_is_good path None false utf8 e test = absurd cc

-- the faults of what is left, seen at its first file
fault_more : {X : Type 0} (g : X → File) (place : ℕ) (before : List ℕ) (xs : List X) (i : ℕ) (x : X) → i < length xs
    → fault_from place before (map g (drop i xs)) ≡ option_or (file_fault place before (g (get_or xs i x))) (fault_from (place + 1) (g (get_or xs i x)).path (map g (drop (i + 1) xs)))
unfolding fault_from
fault_more g place before xs i x lt = ap (λ (ys : List _). fault_from place before (map g ys)) (drop_more xs i x lt)

-- a file without fault is passed
pub passed : {X : Type 0} (g : X → File) (place : ℕ) (before : List ℕ) (xs : List X) (i : ℕ) (d : X) (found total : Option SetFault)
    → i < length xs → found ≡ file_fault place before (g (get_or xs i d)) → found ≡ None
    → fault_from place before (map g (drop i xs)) ≡ total → fault_from (place + 1) (g (get_or xs i d)).path (map g (drop (i + 1) xs)) ≡ total
passed g place before xs i d found total lt e none so_far =
    let later : List _ = map g (drop (i + 1) xs) in
    let here = sym e ∙ none in
    sym (fault_more g place before xs i d lt ∙ ap (λ (o : Option SetFault). option_or o (fault_from (place + 1) (g (get_or xs i d)).path later)) here) ∙ so_far

-- the first fault that is met is the fault of the list
pub met : {X : Type 0} (g : X → File) (place : ℕ) (before : List ℕ) (xs : List X) (i : ℕ) (d : X) (found total : Option SetFault) (fault : SetFault)
    → i < length xs → found ≡ file_fault place before (g (get_or xs i d)) → found ≡ Some fault
    → fault_from place before (map g (drop i xs)) ≡ total → Some fault ≡ total
met g place before xs i d found total fault lt e some so_far =
    let later : List _ = map g (drop (i + 1) xs) in
    let here = sym e ∙ some in
    sym (fault_more g place before xs i d lt ∙ ap (λ (o : Option SetFault). option_or o (fault_from (place + 1) (g (get_or xs i d)).path later)) here) ∙ so_far

-- where no file is left, there is no fault
pub none_left : {X : Type 0} (g : X → File) (place : ℕ) (before : List ℕ) (xs : List X) (i : ℕ) (total : Option SetFault) → length xs ≤ i → fault_from place before (map g (drop i xs)) ≡ total → None ≡ total
unfolding fault_from
none_left g place before xs i total le so_far = sym (at_drop_all (λ (ys : List _). fault_from place before (map g ys)) xs i le) ∙ so_far

-- the files of a list without faulty file ascend
pub ascends : (files : List File) (found : Option SetFault) → found ≡ fault_from 0 [] files → found ≡ None → Ascends [] files
ascends files found e none = (from_none 0 [] files (omega arith) (sym e ∙ none)).up

-- ---- what is made

-- a bag that was made is the list
pub made : {X : Type 0} (view : X → List File) (files : List File) (x : X) → Makes view files (list_fault files) (Ok x) → (view x ≡ files) × IsBag files
made view files x h =
    by_Option (list_fault files) (λ is. (rw is at h, (list_bag_law files).0 is)) (λ fault is. let wrong = rw is at h in absurd cc)

-- what was made is a bag
pub made_bag : {X : Type 0} (view : X → List File) (files : List File) (x : X) → Makes view files (list_fault files) (Ok x) → IsBag (view x)
made_bag view files x h = let m = made view files x h in subst (λ (fs : List File). IsBag fs) (sym m.0) m.1

-- ---- the clauses

-- what is made is the list, and it is a bag
pub is_list : (files : List File) (result : Result (List File) SetFault) → Makes (λ set. set) files (list_fault files) result → IfOk result (λ set. (set ≡ files) × IsBag set)
is_list files (Ok set) h = ((made (λ set. set) files set h).0, made_bag (λ set. set) files set h)
is_list files (Err fault) h = tt

-- a bag is made, unless memory ran out
pub is_made : (files : List File) (result : Result (List File) SetFault) → IsBag files → Makes (λ set. set) files (list_fault files) result → Answers named_set_fault result (Ok files)
is_made files (Ok set) bag h = ap (λ (fs : List File). Ok fs) (sym (rw ((list_bag_law files).1 bag) at h))
is_made files (Err fault) bag h = subst (λ (f : SetFault). Answers named_set_fault (Err f) (Ok files)) (sym (rw ((list_bag_law files).1 bag) at h)) tt

-- a list with a fault is refused with it
pub is_refused : (files : List File) (result : Result (List File) SetFault) (fault : SetFault) → ListFault files fault → Makes (λ set. set) files (list_fault files) result → result ≡ Err fault
is_refused files result fault stands h = subst (λ (found : Option SetFault). Makes (λ set. set) files found result) ((list_fault_law files fault).1 stands) h

-- what is refused has the fault that is named
pub has_fault : (files : List File) (result : Result (List File) SetFault) → Makes (λ set. set) files (list_fault files) result → IfErr result (λ fault. fault ≢ Memory → ListFault files fault)
has_fault files (Ok set) h = tt
has_fault files (Err fault) h = λ other. by_Option (list_fault files)
    (λ is. absurd (other (rw is at h)))
    (λ named is. (list_fault_law files fault).0 (is ∙ sym (ap (λ (f : SetFault). Some f) (err_is fault named (rw is at h)))))
