-- What queries on one table of an office answer: the row of a number, the row of a name, or every row.
use Rattle.office_contents.proofs.Common.{◌≡◌, ◌⊎◌, ℕ, ℤ, List, [], ◌∷◌, map, filter, find, slice_get, option_map, Bool, true, refl, sym, ap, ◌∙◌, AllByRecursion, Int, Text, Row, Term, State, Shown, Has, all_from, ascending_weaker, map-map, filter_all, IsShaped, shown_of, Asks, reads_same, reads_one, reads_rising, finds_part, map_alike, by_number, has_number, each_numbered, few_numbered, rising, IsText, has_text, by_text, each_passes, office_schema, IsOffice}
use Rattle.sqlite_trees.specs.declared.store.Shape.TheVariants as shape

module _ {text : List ℕ} {tree : ℕ} {project : List Term} (old new : State) (rows : List Row) (office : IsOffice old.now) where
  -- WHERE its number is ?1
  pub reads_numbered : Asks office_schema text tree by_number project [] → (n : ℤ) → IsShaped shape.Table (old.now.trees tree) → Shown text (Int n ∷ []) old new rows
      → (new.now ≡ old.now) × (rows ≡ map (shown_of (Int n ∷ []) project) (filter (has_number n) (old.now.trees tree)))
  reads_numbered asks n shaped h = (
    reads_same office_schema text tree by_number project [] asks (Int n ∷ []) old new office.whole.schema_is rows h,
    reads_one office_schema text tree by_number project [] asks (Int n ∷ []) old new office.whole.schema_is rows h (has_number n)
        (each_numbered n [] (old.now.trees tree) shaped) (few_numbered n (old.now.trees tree) shaped),
  )

  -- WHERE its text is ?1, where at most one row has that text
  pub reads_named : (place : ℕ) → Asks office_schema text tree (by_text place) project [] → (name : List ℕ) → AllByRecursion (IsText place) (old.now.trees tree)
      → (filter (has_text place name) (old.now.trees tree) ≡ []) ⊎ ((r : Row) × Has (old.now.trees tree) r × (has_text place name r ≡ true) × (filter (has_text place name) (old.now.trees tree) ≡ r ∷ []))
      → Shown text (Text name ∷ []) old new rows → (new.now ≡ old.now) × (rows ≡ map (shown_of (Text name ∷ []) project) (filter (has_text place name) (old.now.trees tree)))
  reads_named place asks name typed few h = (
    reads_same office_schema text tree (by_text place) project [] asks (Text name ∷ []) old new office.whole.schema_is rows h,
    reads_one office_schema text tree (by_text place) project [] asks (Text name ∷ []) old new office.whole.schema_is rows h (has_text place name)
        (each_passes place name [] (old.now.trees tree) typed) few,
  )

  -- each row, ORDER BY its number
  pub reads_all : Asks office_schema text tree [] project rising → IsShaped shape.Table (old.now.trees tree) → Shown text [] old new rows
      → (new.now ≡ old.now) × (rows ≡ map (shown_of [] project) (old.now.trees tree))
  reads_all asks shaped h =
      let stored = old.now.trees tree in
      let up = ascending_weaker _ _ (λ a b lower. rw lower refl) stored shaped.0 in (
        reads_same office_schema text tree [] project rising asks [] old new office.whole.schema_is rows h,
        reads_rising office_schema text tree [] project rising asks [] old new office.whole.schema_is rows h (λ r. true) (all_from _ stored (λ r there. refl)) up
            ∙ ap (map (shown_of [] project)) (filter_all (λ r. true) stored (λ r there. refl)),
      )

  -- ---- as typed rows

  -- the part that is shown of the one of that name
  pub finds_named : (place : ℕ) → Asks office_schema text tree (by_text place) project [] → (name : List ℕ) → AllByRecursion (IsText place) (old.now.trees tree)
      → (filter (has_text place name) (old.now.trees tree) ≡ []) ⊎ ((r : Row) × Has (old.now.trees tree) r × (has_text place name r ≡ true) × (filter (has_text place name) (old.now.trees tree) ≡ r ∷ []))
      → {Y Z : Type 0} (decode : Row → Y) (is_it : Y → Bool) → ((r : Row) → is_it (decode r) ≡ has_text place name r) → (part : Y → Z) (show : Row → Z) → ((r : Row) → show (shown_of (Text name ∷ []) project r) ≡ part (decode r))
      → Shown text (Text name ∷ []) old new rows → (new.now ≡ old.now) × (option_map part (find is_it (map decode (old.now.trees tree))) ≡ option_map show (slice_get rows 0))
  finds_named place asks name typed few decode is_it tests part show shows h =
      let read = reads_named place asks name typed few h in
      (read.0, finds_part (old.now.trees tree) rows (has_text place name) (shown_of (Text name ∷ []) project) decode is_it tests read.1 part show shows)

  -- all of them
  pub lists_all : Asks office_schema text tree [] project rising → IsShaped shape.Table (old.now.trees tree) → {Y : Type 0} (decode show : Row → Y) → ((r : Row) → show (shown_of [] project r) ≡ decode r)
      → Shown text [] old new rows → (new.now ≡ old.now) × (map decode (old.now.trees tree) ≡ map show rows)
  lists_all asks shaped decode show shows h =
      let stored = old.now.trees tree in
      let read = reads_all asks shaped h in
      (read.0, sym (map_alike (λ r. show (shown_of [] project r)) decode stored (λ r there. shows r)) ∙ sym (map-map show (shown_of [] project) stored) ∙ ap (map show) (sym read.1))
