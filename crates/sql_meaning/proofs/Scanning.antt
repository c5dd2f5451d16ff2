-- What a query over one table answers.
use Rattle.sql_meaning.proofs.Common.{◌≡◌, ◌⊎◌, ℕ, pos, negsuc, List, [], ◌∷◌, map, filter, find, flat_map, slice_get, unwrap_or, option_map, Bool, true, false, None, Some, Less, refl, sym, ap, subst, ◌∙◌, inl, inr, if◌then◌else◌, list_all, AllByRecursion, one_permutation, IsPlain, State, Shown, IsUnchanged, Schema, understood, Has, IsAscending, ascending-map, ascending-filter, map-map, all_from, has_contained, contains_had, has_filtered, has_kept, cases_Bool, Value, Null, Int, Row, Term, eval_all, holds, lit, Query, inner, end, IsAnswerAs, IsSureAnswer, matches_as, output, output_cmp, Output, Trees, Key, overlay, filter_same, has_mapped, mapped_has, Collation, Program}
use Rattle.sql_meaning.proofs.Keys.{found_by}
use Rattle.sqlite_keyed.proofs.SortLemmas.{sorted_unique}
use Rattle.sqlite_sql.proofs.QueryLemmas.{output_cmp_total}
use Rattle.std.specs.List.Sorted.{IsPermutation, IsSorted}
use Rattle.std.proofs.lemmas.List.Sorted.{length_permutation, Contains-permutation, IsPermutation-sym}

-- SELECT project FROM table WHERE test ORDER BY order
abbrev pub scan : ℕ → List Term → List Term → List (Term × Key) → Query
scan tree test project order = record {
  from = inner tree end;
  filter = test;
  group = None;
  project = project;
  distinct = false;
  collations = [];
  order = order;
  limit = lit (Int (negsuc 0));
  offset = lit (Int (pos 0));
}

abbrev pub as_program : Query → Program
as_program q = record { lets = []; body = q }

-- what a query that feeds an INSERT notes of its columns, which only DISTINCT reads
abbrev pub noting : List Collation → Query → Query
noting collations q = record q { collations = collations }

-- the row passes WHERE
abbrev pub passes : Row → List Term → Row → Bool
passes params test row = list_all (holds (params ∷ row ∷ [])) test

abbrev pub shown_of : Row → List Term → Row → Row
shown_of params project row = eval_all project (params ∷ row ∷ [])

none_given : (t : ℕ) (b : Bool) (db : Trees) → unwrap_or (if b then slice_get [] t else None) (db t) ≡ db t
none_given t true db = refl
none_given t false db = refl

matched : (lost : Value) (db : Trees) (params : Row) (test : List Term) (rows : List Row)
    → flat_map (λ r. matches_as lost db test end (params ∷ r ∷ [])) rows ≡ map (λ r. params ∷ r ∷ []) (filter (passes params test) rows)
matched lost db params test [] = refl
matched lost db params test (r ∷ rows) = elim (cases_Bool (passes params test r)) [
  | inl is ↦ rw is (ap (λ more. (params ∷ r ∷ []) ∷ more) (matched lost db params test rows))
  | inr isnt ↦ rw isnt (matched lost db params test rows)
]

-- the answer is the rows that pass, in an order that ORDER BY allows
pub record Scans (db : Trees) (params : Row) (tree : ℕ) (test project : List Term) (order : List (Term × Key)) (rows : List Row) : Type 0 where
  pub ordered : List Output
  pub same : IsPermutation (map (λ r. output (scan tree test project order) (params ∷ r ∷ [])) (filter (passes params test) (db tree))) ordered
  pub sorted : IsSorted (output_cmp (scan tree test project order)) ordered
  pub shown : rows ≡ map (λ (o : Output). o.1) ordered

pub scanned : (db : Trees) (params : Row) (tree : ℕ) (test project : List Term) (order : List (Term × Key)) (rows : List Row)
    → IsSureAnswer (scan tree test project order) (overlay db []) params rows → Scans db params tree test project order rows
scanned db params tree test project order rows h =
    let q = scan tree test project order in
    let a : IsAnswerAs Null q (overlay db []) params rows = h Null in
    let over : overlay db [] tree ≡ db tree = none_given _ _ db in
    let found : matches_as Null (overlay db []) test (inner tree end) (params ∷ []) ≡ map (λ r. params ∷ r ∷ []) (filter (passes params test) (db tree)) =
    matched Null (overlay db []) params test (overlay db [] tree) ∙ ap (λ rs. map (λ r. params ∷ r ∷ []) (filter (passes params test) rs)) over in
    let kept = a.distinct ∙ ap (map (output q)) (a.grouped ∙ found) ∙ map-map (output q) (λ r. params ∷ r ∷ []) (filter (passes params test) (db tree)) in
    record {
      ordered = a.ordered;
      same = subst (λ k. IsPermutation k a.ordered) kept a.same;
      sorted = a.sorted;
      shown = a.shown;
    }

pub unnoted : (collations : List Collation) (tree : ℕ) (test project : List Term) (order : List (Term × Key)) (db : Trees) (params : Row) (rows : List Row)
    → IsSureAnswer (noting collations (scan tree test project order)) db params rows → IsSureAnswer (scan tree test project order) db params rows
unnoted collations tree test project order db params rows h = λ lost. let a = h lost in
    record { staged = a.staged; grouped = a.grouped; kept = a.kept; distinct = a.distinct; ordered = a.ordered; same = a.same; sorted = a.sorted; shown = a.shown }

empty_permutation : {X : Type 0} (ys : List X) → IsPermutation [] ys → ys ≡ []
empty_permutation [] h = refl
empty_permutation (y ∷ ys) h = absurd (let len = length_permutation [] (y ∷ ys) h in cc)

-- at most one row passes, so the answer is what is shown of it
pub answers_one : (db : Trees) (params : Row) (tree : ℕ) (test project : List Term) (order : List (Term × Key)) (rows : List Row) (keep : Row → Bool) → Scans db params tree test project order rows
    → AllByRecursion (λ r. passes params test r ≡ keep r) (db tree) → (filter keep (db tree) ≡ []) ⊎ ((r : Row) × Has (db tree) r × (keep r ≡ true) × (filter keep (db tree) ≡ r ∷ []))
    → rows ≡ map (shown_of params project) (filter keep (db tree))
answers_one db params tree test project order rows keep h each few =
    let out : Row → Output = λ r. output (scan tree test project order) (params ∷ r ∷ []) in
    let kept = filter_same (passes params test) keep (db tree) each in
    let same : IsPermutation (map out (filter keep (db tree))) h.ordered = subst (λ rs. IsPermutation (map out rs) h.ordered) kept h.same in
    elim few [
      | inl none ↦
          let nothing : h.ordered ≡ [] = empty_permutation h.ordered (subst (λ rs. IsPermutation (map out rs) h.ordered) none same) in
          h.shown ∙ ap (map (λ (o : Output). o.1)) nothing ∙ sym (ap (map (shown_of params project)) none)
      | inr one ↦
          let single : h.ordered ≡ out one.0 ∷ [] = one_permutation (out one.0) h.ordered (subst (λ rs. IsPermutation (map out rs) h.ordered) one.3 same) in
          h.shown ∙ ap (map (λ (o : Output). o.1)) single ∙ sym (ap (map (shown_of params project)) one.3)
    ]

-- a query changes nothing
pub shown_same : (sql : List ℕ) (params : Row) (old new : State) (schema : Schema) → old.now.schema ≡ schema → IsPlain (understood schema sql) → (rows : List Row) → Shown sql params old new rows → IsUnchanged old new
unfolding Shown
shown_same sql params old new schema has plain rows h =
    let known = sym h.1.is ∙ ap (λ s. understood s sql) has in
    let bare = subst IsPlain (sym known) plain in
    (rw (bare.0) at h.2).3

-- ORDER BY with a key that rises over the table: the answer is what is shown of the rows that pass, in their order
pub answers_rising : (db : Trees) (params : Row) (tree : ℕ) (test project : List Term) (order : List (Term × Key)) (rows : List Row) (keep : Row → Bool) → Scans db params tree test project order rows
    → AllByRecursion (λ r. passes params test r ≡ keep r) (db tree)
    → IsAscending (λ a b. output_cmp (scan tree test project order) (output (scan tree test project order) (params ∷ a ∷ [])) (output (scan tree test project order) (params ∷ b ∷ [])) ≡ Less) (db tree)
    → rows ≡ map (shown_of params project) (filter keep (db tree))
answers_rising db params tree test project order rows keep h each rising =
    let q = scan tree test project order in
    let out : Row → Output = λ r. output q (params ∷ r ∷ []) in
    let kept = filter_same (passes params test) keep (db tree) each in
    let same : IsPermutation (map out (filter keep (db tree))) h.ordered = subst (λ rs. IsPermutation (map out rs) h.ordered) kept h.same in
    let up = ascending-map (λ a b. output_cmp q a b ≡ Less) out (filter keep (db tree)) (ascending-filter (λ a b. output_cmp q (out a) (out b) ≡ Less) keep (db tree) rising) in
    let is : h.ordered ≡ map out (filter keep (db tree)) = sorted_unique (output_cmp q) (output_cmp_total q) (map out (filter keep (db tree))) h.ordered up same h.sorted in
    h.shown ∙ ap (map (λ (o : Output). o.1)) is ∙ map-map (λ (o : Output). o.1) out (filter keep (db tree))

-- one row by a key: the typed row that has it is the first of the answer
pub finds_one : {Y : Type 0} (rows answer : List Row) (keep : Row → Bool) (shown : Row → Row) (decode show : Row → Y) (test : Y → Bool) → ((r : Row) → test (decode r) ≡ keep r) → ((r : Row) → show (shown r) ≡ decode r)
    → answer ≡ map shown (filter keep rows) → find test (map decode rows) ≡ option_map show (slice_get answer 0)
finds_one rows answer keep shown decode show test tests shows is =
    found_by test keep decode rows (all_from _ rows (λ r there. tests r)) ∙ first (filter keep rows) ∙ ap (λ rs. option_map show (slice_get rs 0)) (sym is)
  where
    first : (rs : List Row) → option_map decode (slice_get rs 0) ≡ option_map show (slice_get (map shown rs) 0)
    first [] = refl
    first (r ∷ rs) = ap Some (sym (shows r))

-- with no order asked, the answer has what is shown of each row that is kept, and nothing else
pub answer_sound : (db : Trees) (params : Row) (tree : ℕ) (test project : List Term) (order : List (Term × Key)) (rows : List Row) (keep : Row → Bool) → Scans db params tree test project order rows
    → AllByRecursion (λ r. passes params test r ≡ keep r) (db tree) → (x : Row) → Has rows x → (r : Row) × Has (db tree) r × (keep r ≡ true) × (x ≡ shown_of params project r)
answer_sound db params tree test project order rows keep h each x there =
    let out : Row → Output = λ r. output (scan tree test project order) (params ∷ r ∷ []) in
    let kept = filter_same (passes params test) keep (db tree) each in
    let same : IsPermutation (map out (filter keep (db tree))) h.ordered = subst (λ rs. IsPermutation (map out rs) h.ordered) kept h.same in
    let o = has_mapped (λ (o : Output). o.1) h.ordered x (subst (λ rs. Has rs x) h.shown there) in
    let before = has_contained (map out (filter keep (db tree))) o.0 (Contains-permutation h.ordered (map out (filter keep (db tree))) o.0 (IsPermutation-sym _ _ same) (contains_had h.ordered o.0 o.1)) in
    let r = has_mapped out (filter keep (db tree)) o.0 before in
    let within = has_filtered keep (db tree) r.0 r.1 in
    (r.0, within.0, within.1, o.2 ∙ ap (λ (p : Output). p.1) r.2)

pub answer_complete : (db : Trees) (params : Row) (tree : ℕ) (test project : List Term) (order : List (Term × Key)) (rows : List Row) (keep : Row → Bool) → Scans db params tree test project order rows
    → AllByRecursion (λ r. passes params test r ≡ keep r) (db tree) → (r : Row) → Has (db tree) r → keep r ≡ true → Has rows (shown_of params project r)
answer_complete db params tree test project order rows keep h each r there is =
    let out : Row → Output = λ r. output (scan tree test project order) (params ∷ r ∷ []) in
    let kept = filter_same (passes params test) keep (db tree) each in
    let same : IsPermutation (map out (filter keep (db tree))) h.ordered = subst (λ rs. IsPermutation (map out rs) h.ordered) kept h.same in
    let before = mapped_has out (filter keep (db tree)) r (has_kept keep (db tree) r there is) in
    let after = has_contained h.ordered (out r) (Contains-permutation (map out (filter keep (db tree))) h.ordered (out r) same (contains_had (map out (filter keep (db tree))) (out r) before)) in
    subst (λ rs. Has rs (shown_of params project r)) (sym h.shown) (mapped_has (λ (o : Output). o.1) h.ordered (out r) after)
