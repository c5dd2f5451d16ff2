-- Files of a bag by their paths.
use Rattle.bag_check.proofs.Common.{cases_Bool, no_value, ◌≡◌, ℕ, inl, inr, Bool, true, false, List, [], ◌∷◌, map, filter, refl, sym, ap, subst, ◌∙◌, Some, None, bytes_eq, codes, same_Some, Decides-eqb, bytes_eq-Decides, starts_is, comes_before, File, IsBag, Ascends, content_at, Holds, HasFile, IsPayload, is_payload, has_path, before_chain, Has, contains_has, has_contains, has_map, map_has, has_filter, filter_has}
use Rattle.bag_check.proofs.OrderLemmas.{apart, Up, Ascending, ascending_rest, later_path}
use Rattle.bag_text.proofs.CaseLemmas.{by_Bool, by_Option}

-- ---- a bag's paths

-- the paths of files
abbrev pub paths : List File → List (List ℕ)
paths files = map (λ f. f.path) files

-- the paths of a list that ascends ascend
pub ascends_up : (before : List ℕ) (files : List File) → Ascends before files → Up before (paths files)
ascends_up before [] up = tt
ascends_up before (f ∷ fs) up = (up.0, ascends_up f.path fs up.1)

-- a bag's paths ascend
pub bag_ascends : (bag : List File) → IsBag bag → Ascending (paths bag)
bag_ascends bag is = ascending_rest [] (paths bag) (ascends_up [] bag is.ascending)

-- what is left of a list that ascends ascends, also with one passed over
pub up_skip : (before p : List ℕ) (ps : List (List ℕ)) → Up before (p ∷ ps) → Up before ps
up_skip before p [] up = tt
up_skip before p (q ∷ ps) up = (before_chain before p q up.0 up.1.0, up.1.1)

-- files that are kept by their paths still ascend
pub up_filter : (t : List ℕ → Bool) (before : List ℕ) (files : List File) → Up before (paths files) → Up before (paths (filter (λ f. t f.path) files))
up_filter t before [] up = tt
up_filter t before (f ∷ fs) up = elim (cases_Bool (t f.path)) [
  | inl is ↦ rw is (up.0, up_filter t f.path fs up.1)
  | inr is ↦ rw is (up_filter t before fs (up_skip before f.path (paths fs) up))
]

-- the paths of files that are kept by their paths ascend
pub kept_ascends : (t : List ℕ → Bool) (bag : List File) → IsBag bag → Ascending (paths (filter (λ f. t f.path) bag))
kept_ascends t bag is = ascending_rest [] (paths (filter (λ f. t f.path) bag)) (up_filter t [] bag (ascends_up [] bag is.ascending))

-- ---- one file at one path

-- two files of an ascending list with one path are the same
one_file : (files : List File) (f g : File) → Ascending (paths files) → Has files f → Has files g → f.path ≡ g.path → f ≡ g
one_file [] f g up h k e = absurd h
one_file (x ∷ xs) f g up (inl is) (inl also) e = sym is ∙ also
one_file (x ∷ xs) f g up (inl is) (inr more) e =
    absurd (apart x.path (subst (λ (p : List ℕ). comes_before x.path p ≡ true) (sym (ap (λ (y : File). y.path) is ∙ e)) (later_path x.path (paths xs) up g.path (has_map (λ y. y.path) xs g more))))
one_file (x ∷ xs) f g up (inr more) (inl is) e =
    absurd (apart x.path (subst (λ (p : List ℕ). comes_before x.path p ≡ true) (e ∙ sym (ap (λ (y : File). y.path) is)) (later_path x.path (paths xs) up f.path (has_map (λ y. y.path) xs f more))))
one_file (x ∷ xs) f g up (inr more) (inr others) e = one_file xs f g (ascending_rest x.path (paths xs) up) more others e

-- a file of this path and content
abbrev pub at : List ℕ → List ℕ → File
at path content = record { path = path; content = content }

-- a bag has one content at a path
pub one_content : (bag : List File) → IsBag bag → (path c d : List ℕ) → Holds bag path c → Holds bag path d → c ≡ d
one_content bag is path c d h k =
    ap (λ (f : File). f.content) (one_file bag (at path c) (at path d) (bag_ascends bag is) (contains_has bag (at path c) h) (contains_has bag (at path d) k) refl)

-- ---- looking a path up

-- what is found at a path is a file of the list
found_has : (files : List File) (path content : List ℕ) → content_at files path ≡ Some content → Has files (at path content)
found_has [] path content e = absurd cc
found_has (f ∷ fs) path content e = by_Bool (bytes_eq f.path path)
    (λ t.
    let same : f.path ≡ path = (bytes_eq-Decides f.path path).0 t in
    let is : f.content ≡ content = same_Some f.content content (rw t at e) in
    inl (ap (λ (p : List ℕ). at p f.content) same ∙ ap (λ (c : List ℕ). at path c) is))
    (λ t. inr (found_has fs path content (rw t at e)))

-- where nothing is found no file has the path
none_found : (files : List File) (path content : List ℕ) → content_at files path ≡ None → Has files (at path content) → ⊥
none_found [] path content e h = h
none_found (f ∷ fs) path content e (inl is) =
    let wrong = rw ((bytes_eq-Decides f.path path).1 (ap (λ (f : File). f.path) is)) at e in absurd cc
none_found (f ∷ fs) path content e (inr h) = elim (cases_Bool (bytes_eq f.path path)) [
  | inl t ↦ let wrong = rw t at e in absurd cc
  | inr t ↦ none_found fs path content (rw t at e) h
]

-- what is found at a path stands there
pub content_found : (bag : List File) (path content : List ℕ) → content_at bag path ≡ Some content → Holds bag path content
content_found bag path content e = has_contains bag (at path content) (found_has bag path content e)

-- where nothing is found there is no file
pub no_content : (bag : List File) (path : List ℕ) → content_at bag path ≡ None → HasFile bag path → ⊥
no_content bag path e (content, holds) = none_found bag path content e (contains_has bag (at path content) holds)

-- what stands at a path is found
pub content_there : (bag : List File) → IsBag bag → (path content : List ℕ) → Holds bag path content → content_at bag path ≡ Some content
content_there bag is path content holds = by_Option (content_at bag path)
    (λ e. absurd (no_content bag path e (content, holds)))
    (λ other e. e ∙ ap (λ (c : List ℕ). Some c) (one_content bag is path other content (content_found bag path other e) holds))

-- a path that is found has a file
pub has_path_is : (bag : List File) (path : List ℕ) → has_path bag path ≡ true → HasFile bag path
has_path_is bag path e =
    by_Option (content_at bag path) (λ is. let wrong = rw is at e in absurd cc) (λ content is. (content, content_found bag path content is))

-- a path that isn't found has none
pub no_path_is : (bag : List File) (path : List ℕ) → has_path bag path ≡ false → HasFile bag path → ⊥
no_path_is bag path e = no_content bag path (no_value (content_at bag path) e)

-- a file's path is one of the bag's
pub path_of_file : (bag : List File) (f : File) → Has bag f → HasFile bag f.path
path_of_file bag f h = (f.content, has_contains bag f h)

-- ---- payload paths

-- a path that passes the test is one of the payload
pub is_payload_is : (path : List ℕ) → is_payload path ≡ true → IsPayload path
is_payload_is path e = (_, (starts_is Decides-eqb path (codes "data/") (is_payload path) refl).0 e)

-- a path of the payload passes the test
pub is_payload_again : (path : List ℕ) → IsPayload path → is_payload path ≡ true
is_payload_again path (rest, is) = (starts_is Decides-eqb path (codes "data/") (is_payload path) refl).1 rest is

-- ---- files that are kept by their paths

-- a path that is kept is a file's, and passes the test
pub kept_has : (t : List ℕ → Bool) (bag : List File) (path : List ℕ) → Has (paths (filter (λ f. t f.path) bag)) path → HasFile bag path × (t path ≡ true)
kept_has t bag path h =
    let found = map_has (λ (f : File). f.path) (filter (λ f. t f.path) bag) path h in
    let kept = filter_has (λ (f : File). t f.path) bag found.0 found.1 in
    (subst (λ (p : List ℕ). HasFile bag p) found.2 (path_of_file bag found.0 kept.0), ap t (sym found.2) ∙ kept.1)

-- a file's path that passes the test is kept
pub has_kept : (t : List ℕ → Bool) (bag : List File) (path : List ℕ) → HasFile bag path → t path ≡ true → Has (paths (filter (λ f. t f.path) bag)) path
has_kept t bag path (content, holds) passes =
    has_map (λ (f : File). f.path) (filter (λ f. t f.path) bag) (at path content) (has_filter (λ (f : File). t f.path) bag (at path content) (contains_has bag (at path content) holds) passes)
