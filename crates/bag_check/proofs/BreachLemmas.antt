-- The first place at which a rule is broken is the least.
use Rattle.bag_check.proofs.FirstLemmas.{◌≡◌, ℕ, inl, inr, Bool, true, false, cond, not, List, [], ◌∷◌, map, refl, sym, ap, subst, ◌∙◌, Option, Some, None, option_map, find, false≢true, comes_before, File, Entry, is_path_listed, Rule, BreachBefore, Listed, concerns, is_about_files, breaks_at, files_to_list, first_listed, first_unlisted, first_in, or_breach, first_breach, before_chain, Has, has_map, apart, Ascending, ascending_rest, later_path, IsLeastPath, find_is_least, paths, list_names}

-- ---- in one manifest

-- the paths that a manifest lists
abbrev pub paths_of : Listed → List (List ℕ)
paths_of l = map (λ e. e.0) l.entries

-- what is listed of this path breaks the rule
abbrev pub BreaksListed : List File → Rule → Listed → List ℕ → Type 0
BreaksListed bag rule l path = (entry : Entry) × Has l.entries (path, entry) × (breaks_at bag rule (path, entry) ≡ true)

-- the rule asks for the file of this path, which isn't listed
abbrev pub LeavesOut : List File → Rule → Listed → List ℕ → Type 0
LeavesOut bag rule l path = Has (paths (files_to_list bag rule)) path × (not (is_path_listed path l.entries) ≡ true)

-- the one or the other
abbrev pub BreaksIn : List File → Rule → Listed → Bool → List ℕ → Type 0
BreaksIn bag rule l true path = LeavesOut bag rule l path
BreaksIn bag rule l false path = BreaksListed bag rule l path

-- at this path of a manifest the rule is broken, as far as is computed
abbrev pub Breaking : List File → Rule → Listed → List ℕ → Type 0
Breaking bag rule l path = (concerns rule l.kind ≡ true) × BreaksIn bag rule l (is_about_files rule) path

-- an element with this key passes a test
abbrev PassesAt : {A : Type 0} → (A → List ℕ) → (A → Bool) → List A → List ℕ → Type 0
PassesAt {A} key test xs path = (x : A) × Has xs x × (key x ≡ path) × (test x ≡ true)

-- the first element that passes a test, where the keys ascend, has the least key
pub find_key_is_least : {A : Type 0} (key : A → List ℕ) (test : A → Bool) (xs : List A) → Ascending (map key xs)
    → IsLeastPath (PassesAt key test xs) (option_map key (find test xs))
find_key_is_least key test [] up = λ path h. h.1
find_key_is_least {A} key test (y ∷ ys) up = by_test (test y) refl (find_key_is_least key test ys (ascending_rest (key y) (map key ys) up))
  where
    not_before : (other : List ℕ) → PassesAt key test (y ∷ ys) other → comes_before other (key y) ≡ true → ⊥
    not_before other (x, inl is, at, passes) before = apart (key y) (subst (λ (p : List ℕ). comes_before p (key y) ≡ true) (sym (ap key is ∙ at)) before)
    not_before other (x, inr more, at, passes) before =
        let later = later_path (key y) (map key ys) up (key x) (has_map key ys x more) in
        apart (key y) (before_chain (key y) (key x) (key y) later (subst (λ (p : List ℕ). comes_before p (key y) ≡ true) (sym at) before))

    not_here : test y ≡ false → (path : List ℕ) → PassesAt key test (y ∷ ys) path → PassesAt key test ys path
    not_here e path (x, inl is, at, passes) = absurd (false≢true (sym e ∙ ap test is ∙ passes))
    not_here e path (x, inr more, at, passes) = (x, more, at, passes)

    skip : test y ≡ false → (o : Option (List ℕ)) → IsLeastPath (PassesAt key test ys) o → IsLeastPath (PassesAt key test (y ∷ ys)) o
    skip e None least = λ path h. least path (not_here e path h)
    skip e (Some path) least = ((least.0.0, inr least.0.1, least.0.2, least.0.3), λ other h. least.1 other (not_here e other h))

    by_test : (t : Bool) → test y ≡ t → IsLeastPath (PassesAt key test ys) (option_map key (find test ys)) → IsLeastPath (PassesAt key test (y ∷ ys)) (option_map key (cond t (Some y) (find test ys)))
    by_test true e rest = ((y, inl refl, refl, e), not_before)
    by_test false e rest = skip e (option_map key (find test ys)) rest

-- what holds of the same paths has the same least path
pub same_least : (S T : List ℕ → Type 0) → ((path : List ℕ) → S path → T path) → ((path : List ℕ) → T path → S path) → (o : Option (List ℕ)) → IsLeastPath S o → IsLeastPath T o
same_least S T there back None least = λ path h. least path (back path h)
same_least S T there back (Some path) least = (there path least.0, λ other h. least.1 other (back other h))

-- in one manifest the first path is the least
pub first_is_least : (bag : List File) (rule : Rule) (l : Listed) → Ascending (paths (files_to_list bag rule)) → Ascending (paths_of l) → IsLeastPath (Breaking bag rule l) (first_in bag rule l)
first_is_least bag rule l files up = by_kind (concerns rule l.kind) (BreaksIn bag rule l (is_about_files rule)) (cond (is_about_files rule) (first_unlisted bag rule l.entries) (first_listed bag rule l.entries)) (by_rule (is_about_files rule))
  where
    there : (path : List ℕ) → PassesAt (λ (e : List ℕ × Entry). e.0) (breaks_at bag rule) l.entries path → BreaksListed bag rule l path
    there path (e, has, at, breaks) =
        (e.1, subst (λ (p : List ℕ). Has l.entries (p, e.1)) at has, subst (λ (p : List ℕ). breaks_at bag rule (p, e.1) ≡ true) at breaks)

    back : (path : List ℕ) → BreaksListed bag rule l path → PassesAt (λ (e : List ℕ × Entry). e.0) (breaks_at bag rule) l.entries path
    back path (entry, has, breaks) = ((path, entry), has, refl, breaks)

    by_rule : (x : Bool) → IsLeastPath (BreaksIn bag rule l x) (cond x (first_unlisted bag rule l.entries) (first_listed bag rule l.entries))
    by_rule true = find_is_least (λ path. not (is_path_listed path l.entries)) (paths (files_to_list bag rule)) files
    by_rule false = same_least (PassesAt (λ (e : List ℕ × Entry). e.0) (breaks_at bag rule) l.entries) (BreaksListed bag rule l) there back (first_listed bag rule l.entries) (find_key_is_least (λ e. e.0) (breaks_at bag rule) l.entries up)

    by_kind : (x : Bool) (P : List ℕ → Type 0) (o : Option (List ℕ)) → IsLeastPath P o → IsLeastPath (λ path. (x ≡ true) × P path) (cond (not x) None o)
    by_kind true P o least = same_least P (λ path. (true ≡ true) × P path) (λ path h. (refl, h)) (λ path h. h.1) o least
    by_kind false P o least = λ path h. false≢true h.0

-- ---- in all of them

-- a manifest's name and a path
abbrev pub Place : Type 0
Place = List ℕ × List ℕ

-- the least place of which S holds, or none
abbrev pub IsLeastBreach : (List ℕ → List ℕ → Type 0) → Option Place → Type 0
IsLeastBreach S None = (name path : List ℕ) → S name path → ⊥
IsLeastBreach S (Some place) = S place.0 place.1 × ((name path : List ℕ) → S name path → BreachBefore (name, path) place → ⊥)

-- in some manifest of this name the rule is broken at this path
abbrev pub BreakingAt : List File → Rule → List Listed → List ℕ → List ℕ → Type 0
BreakingAt bag rule ls name path = (l : Listed) × Has ls l × (l.name ≡ name) × Breaking bag rule l path

-- among manifests that ascend by name the first place is the least
pub first_breach_is_least : (bag : List File) (rule : Rule) (ls : List Listed) → Ascending (list_names ls) → ((l : Listed) → Has ls l → IsLeastPath (Breaking bag rule l) (first_in bag rule l))
    → IsLeastBreach (BreakingAt bag rule ls) (first_breach bag rule ls)
unfolding first_breach
first_breach_is_least bag rule [] up each = λ name path h. h.1
first_breach_is_least bag rule (l ∷ ls) up each = by_first (first_in bag rule l) (each l (inl refl)) (first_breach bag rule ls) (first_breach_is_least bag rule ls (ascending_rest l.name (list_names ls) up) (λ k h. each k (inr h)))
  where
    later : (k : Listed) → Has ls k → comes_before l.name k.name ≡ true
    later k h = later_path l.name (list_names ls) up k.name (has_map (λ x. x.name) ls k h)

    not_before : (path : List ℕ) → ((other : List ℕ) → Breaking bag rule l other → comes_before other path ≡ true → ⊥) → (name other : List ℕ) → BreakingAt bag rule (l ∷ ls) name other → BreachBefore (name, other) (l.name, path) → ⊥
    not_before path least name other (k, inl is, at, broken) (inl before) =
        apart l.name (subst (λ (n : List ℕ). comes_before n l.name ≡ true) (sym (ap (λ (x : Listed). x.name) is ∙ at)) before)
    not_before path least name other (k, inl is, at, broken) (inr before) =
        least other (subst (λ (x : Listed). Breaking bag rule x other) (sym is) broken) before.1
    not_before path least name other (k, inr h, at, broken) (inl before) =
        apart l.name (before_chain l.name k.name l.name (later k h) (subst (λ (n : List ℕ). comes_before n l.name ≡ true) (sym at) before))
    not_before path least name other (k, inr h, at, broken) (inr before) =
        apart l.name (subst (λ (n : List ℕ). comes_before l.name n ≡ true) (at ∙ before.0) (later k h))

    not_here : ((path : List ℕ) → Breaking bag rule l path → ⊥) → (name path : List ℕ) → BreakingAt bag rule (l ∷ ls) name path → BreakingAt bag rule ls name path
    not_here none name path (k, inl is, at, broken) = absurd (none path (subst (λ (x : Listed). Breaking bag rule x path) (sym is) broken))
    not_here none name path (k, inr h, at, broken) = (k, h, at, broken)

    skip : ((path : List ℕ) → Breaking bag rule l path → ⊥) → (o : Option Place) → IsLeastBreach (BreakingAt bag rule ls) o → IsLeastBreach (BreakingAt bag rule (l ∷ ls)) o
    skip none None least = λ name path h. least name path (not_here none name path h)
    skip none (Some place) least = ((least.0.0, inr least.0.1, least.0.2, least.0.3), λ name path h. least.1 name path (not_here none name path h))

    by_first : (o : Option (List ℕ)) → IsLeastPath (Breaking bag rule l) o → (rest : Option Place) → IsLeastBreach (BreakingAt bag rule ls) rest → IsLeastBreach (BreakingAt bag rule (l ∷ ls)) (or_breach l.name o rest)
    by_first None none rest least = skip none rest least
    by_first (Some path) least rest more = ((l, inl refl, refl, least.0), not_before path least.1)
