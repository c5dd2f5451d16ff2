-- What ORDER BY the rowid DESC LIMIT 1 answers: what is shown of the last row.
use Rattle.office_contents.proofs.Common.{◌≡◌, ℕ, ℤ, pos, List, [], ◌∷◌, ◌++◌, map, filter, take, slice_get, unwrap_or, option_map, Some, true, false, Less, refl, sym, ap, subst, ◌∙◌, AllByRecursion, IsPermutation, IsPermutation-refl, IsPermutation-sym, IsPermutation-trans, IsPermutation-cons, IsPermutation-append_comm, Null, Int, Row, value_cmp, Binary, Term, lit, col, Query, IsSureAnswer, output, output_cmp, Output, Schema, Trees, rowid, IsAscending, IsTable, State, Shown, Select, understood, reads_listing, IsPlain, command_of, reads_as, Key, overlay, all_has, all_from, first_taken, ascending-append, ascending-map, ascending_weaker, all-append, sorted_unique, filter_all, int_at, scan, as_program, passes, scanned, shown_same, last_number}
use Rattle.sqlite_sql.proofs.QueryLemmas.{output_cmp_total}

abbrev falling : List (Term × Key)
falling = (col 1 0, record { collation = Binary; descending = true }) ∷ []

-- SELECT rowid FROM table ORDER BY rowid DESC LIMIT 1
abbrev pub last_scan : ℕ → Query
last_scan tree = record (scan tree [] (col 1 0 ∷ []) falling) { limit = lit (Int (pos 1)) }

-- the text is this query, under the schema
pub record AsksLast (schema : Schema) (text : List ℕ) (tree : ℕ) : Type 0 where
  pub names : List (List ℕ)
  pub command : command_of (understood schema text) ≡ Select (as_program (last_scan tree)) names
  pub unlisted : reads_listing schema text ≡ false
  pub plain : IsPlain (understood schema text)

-- ---- a list from its end

abbrev turned : {X : Type 0} → List X → List X
turned [] = []
turned (x ∷ xs) = turned xs ++ x ∷ []

permuted-turned : {X : Type 0} (xs : List X) → IsPermutation xs (turned xs)
permuted-turned [] = IsPermutation-refl []
permuted-turned (x ∷ xs) = IsPermutation-trans _ _ _ (IsPermutation-cons x _ _ (permuted-turned xs)) (IsPermutation-append_comm (x ∷ []) (turned xs))

all-turned : {X : Type 0} (P : X → Type 0) (xs : List X) → AllByRecursion P xs → AllByRecursion P (turned xs)
all-turned P [] all = tt
all-turned P (x ∷ xs) all = all-append P (turned xs) (x ∷ []) (all-turned P xs all.1) (all.0, tt)

ascending-turned : {X : Type 0} (R : X → X → Type 0) (xs : List X) → IsAscending (λ a b. R b a) xs → IsAscending R (turned xs)
ascending-turned R [] up = tt
ascending-turned R (x ∷ xs) up =
    ascending-append R (turned xs) (x ∷ []) (ascending-turned R xs up.1) (tt, tt) (all_from _ (turned xs) (λ y there. (all_has _ (turned xs) y (all-turned (λ b. R b x) xs up.0) there, tt)))

first-append : {X Y : Type 0} (g : X → Y) (xs : List X) (y : X) → option_map g (slice_get (xs ++ y ∷ []) 0) ≡ Some (unwrap_or (option_map g (slice_get xs 0)) (g y))
first-append g [] y = refl
first-append g (x ∷ xs) y = refl

first-map : {X Y Z : Type 0} (g : Y → Z) (f : X → Y) (xs : List X) → option_map g (slice_get (map f xs) 0) ≡ option_map (λ x. g (f x)) (slice_get xs 0)
first-map g f [] = refl
first-map g f (x ∷ xs) = refl

-- ---- the query

abbrev out : ℕ → Row → Output
out tree r = output (last_scan tree) ([] ∷ r ∷ [])

later_first : (tree : ℕ) (a b : Row) → value_cmp (rowid a) (rowid b) ≡ Less → output_cmp (last_scan tree) (out tree b) (out tree a) ≡ Less
later_first tree a b lower = rw lower refl

abbrev number_of : Output → ℤ
number_of o = int_at o.1 0

module _ {Y : Type 0} (tree : ℕ) (decode : Row → Y) (number : Y → ℤ) (numbers : (r : Row) → number (decode r) ≡ int_at r 0) where
  first_is_last : (rows : List Row) → option_map number_of (slice_get (turned (map (out tree) rows)) 0) ≡ last_number number (map decode rows)
  first_is_last [] = refl
  first_is_last (r ∷ rows) =
      first-append number_of (turned (map (out tree) rows)) (out tree r) ∙ ap (λ o. Some (unwrap_or o (int_at r 0))) (first_is_last rows) ∙ ap (λ n. Some (unwrap_or (last_number number (map decode rows)) n)) (sym (numbers r))

  answers_last : (db : Trees) (rows : List Row) → IsTable (db tree) → IsSureAnswer (last_scan tree) (overlay db []) [] rows → option_map (λ row. int_at row 0) (slice_get rows 0) ≡ last_number number (map decode (db tree))
  answers_last db rows rising h =
      let a = h Null in
      let all = map (λ (o : Output). o.1) a.ordered in
      let whole : IsSureAnswer (scan tree [] (col 1 0 ∷ []) falling) (overlay db []) [] all = λ lost. record { staged = a.staged; grouped = a.grouped; kept = a.kept; distinct = a.distinct; ordered = a.ordered; same = a.same; sorted = a.sorted; shown = refl } in
      let s = scanned db [] tree [] (col 1 0 ∷ []) falling all whole in
      let kept : filter (passes [] []) (db tree) ≡ db tree = filter_all (passes [] []) (db tree) (λ r there. refl) in
      let same : IsPermutation (map (out tree) (db tree)) s.ordered = subst (λ rs. IsPermutation (map (out tree) rs) s.ordered) kept s.same in
      let outs = map (out tree) (db tree) in
      let down : IsAscending (λ a b. output_cmp (last_scan tree) b a ≡ Less) outs =
      ascending-map (λ a b. output_cmp (last_scan tree) b a ≡ Less) (out tree) (db tree) (ascending_weaker _ _ (λ a b lower. later_first tree a b lower) (db tree) rising) in
      let back : IsPermutation (turned outs) s.ordered = IsPermutation-trans _ _ _ (IsPermutation-sym _ _ (permuted-turned outs)) same in
      let is : s.ordered ≡ turned outs = sorted_unique (output_cmp (last_scan tree)) (output_cmp_total (last_scan tree)) (turned outs) s.ordered (ascending-turned _ outs down) back s.sorted in
      let shown : rows ≡ take 1 all = a.shown in
      ap (λ rs. option_map (λ row. int_at row 0) (slice_get rs 0)) shown ∙ ap (option_map (λ row. int_at row 0)) (first_taken all ∙ ap (λ rs. slice_get rs 0) s.shown)
      ∙ first-map (λ row. int_at row 0) (λ (o : Output). o.1) s.ordered ∙ ap (λ os. option_map number_of (slice_get os 0)) is ∙ first_is_last (db tree)

  -- a text that is this query shows the highest number, and changes nothing
  pub reads_last : (schema : Schema) (text : List ℕ) → AsksLast schema text tree → (old new : State) → old.now.schema ≡ schema → IsTable (old.now.trees tree) → (rows : List Row) → Shown text [] old new rows
      → (new.now ≡ old.now) × (last_number number (map decode (old.now.trees tree)) ≡ option_map (λ row. int_at row 0) (slice_get rows 0))
  reads_last schema text asks old new has rising rows h = (
    (shown_same text [] old new schema has asks.plain rows h).0.now_is,
    sym (answers_last old.now.trees rows rising (reads_as text [] old new schema has _ asks.command asks.plain asks.unlisted rows h).answer),
  )
