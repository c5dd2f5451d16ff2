-- The due days of the deposits of a class that is revised, set one after another.
use Rattle.office_refines.proofs.FirstLemmas.{◌≡◌, ℕ, ◌+◌, ◌<◌, ℤ, pos, Bool, true, false, List, [], ◌∷◌, map, filter, length, Option, Some, None, bytes_eq, refl, sym, ap, ap₂, ◌∙◌, arith, cond, if◌then◌else◌, AllByRecursion, int_eq, option_or, option_map_or, Date, epoch_day, ◌>>=◌, due_of, Never, DueRow, Tables, is_due_of, is_of_class, with_due, closing_of, History, Change, Deposit, DefinedClass, with_changes, years_of, deposits, due, deposit_row, due_row, due_rows, different, IsDeposited, with_due_days, day_back, due_number, due_rows_are, alike, bytes_eq-sym, rows_changed, rows_from, years_grown, same_deposits, same_live, by_Bool}
use Rattle.office_core.proofs.DayLemmas.{day_number}

-- ---- due days by numbers

-- a number, and the due day that the deposit of that number gets
abbrev set_one : ℤ × Option ℤ → DueRow → DueRow
set_one s d = if is_due_of s.0 d then record d { due = s.1 } else d

abbrev pub set_all : List (ℤ × Option ℤ) → List DueRow → List DueRow
set_all [] ds = ds
set_all (s ∷ ss) ds = set_all ss (map (set_one s) ds)

module _ {A : Type 0} (those : A → Bool) (day : A → Option ℤ) where
  -- of those items that pass, from that number on
  abbrev settings : ℕ → List A → List (ℤ × Option ℤ)
  settings start [] = []
  settings start (x ∷ xs) = cond (those x) ((pos start, day x) ∷ settings (start + 1) xs) (settings (start + 1) xs)

  module _ (before after : ℕ → A → DueRow) (numbers_it : (m : ℕ) (x : A) → (before m x).number ≡ pos m)
      (sets : (m : ℕ) (x : A) → those x ≡ true → record (before m x) { due = day x } ≡ after m x) (keeps : (m : ℕ) (x : A) → those x ≡ false → before m x ≡ after m x) where
    -- the rows from a place on lie past a lower number
    spared : (n : ℕ) (due_then : Option ℤ) (xs : List A) (start : ℕ) → n < start → map (set_one (pos n, due_then)) (rows_from before start xs) ≡ rows_from before start xs
    spared n due_then xs start low = rows_changed (set_one (pos n, due_then)) before before xs start (λ i x e.
        ap (λ b. if b then record (before (start + i) x) { due = due_then } else before (start + i) x) (ap (λ k. int_eq k (pos n)) (numbers_it (start + i) x) ∙ different (start + i) n (λ same. omega (arith, same, low))))

    -- those of later numbers spare a row
    passed : (d : DueRow) (n : ℕ) → d.number ≡ pos n → (xs : List A) (start : ℕ) → n < start → (ds : List DueRow) → set_all (settings start xs) (d ∷ ds) ≡ d ∷ set_all (settings start xs) ds
    passed d n is [] start low ds = refl
    passed d n is (x ∷ xs) start low ds =
        let rest = passed d n is xs (start + 1) (omega (arith, low)) in
        let other : int_eq d.number (pos start) ≡ false = ap (λ k. int_eq k (pos start)) is ∙ different n start (λ same. omega (arith, same, low)) in
        by_Bool (those x)
        (λ passes. rw passes (ap (λ b. set_all (settings (start + 1) xs) ((if b then record d { due = day x } else d) ∷ map (set_one (pos start, day x)) ds)) other ∙ rest (map (set_one (pos start, day x)) ds)))
        (λ fails. rw fails (rest ds))

    set_from : (xs : List A) (start : ℕ) → set_all (settings start xs) (rows_from before start xs) ≡ rows_from after start xs
    set_from [] start = refl
    set_from (x ∷ xs) start = by (those x) refl (set_from xs (start + 1))
      where
        low : start < start + 1
        low = omega arith

        it : int_eq (before start x).number (pos start) ≡ true
        it = ap (λ k. int_eq k (pos start)) (numbers_it start x) ∙ alike start start refl

        by : (b : Bool) → those x ≡ b → set_all (settings (start + 1) xs) (rows_from before (start + 1) xs) ≡ rows_from after (start + 1) xs
            → set_all (cond b ((pos start, day x) ∷ settings (start + 1) xs) (settings (start + 1) xs)) (before start x ∷ rows_from before (start + 1) xs) ≡ after start x ∷ rows_from after (start + 1) xs
        by true e rest =
            let now = record (before start x) { due = day x } in
            ap₂ (λ b rs. set_all (settings (start + 1) xs) ((if b then now else before start x) ∷ rs)) it (spared start (day x) xs (start + 1) low)
            ∙ passed now start (numbers_it start x) xs (start + 1) low (rows_from before (start + 1) xs)
            ∙ ap₂ (λ r rs. r ∷ rs) (sets start x e) rest
        by false e rest =
            passed (before start x) start (numbers_it start x) xs (start + 1) low (rows_from before (start + 1) xs)
            ∙ ap₂ (λ r rs. r ∷ rs) (keeps start x e) rest

-- ---- the deposits of a class

module _ (name : List ℕ) (years : Option ℕ) where
  -- by the days on which they were closed
  abbrev pub days_from : ℕ → List (Date × Deposit) → List (ℤ × Option ℤ)
  days_from = settings (λ (x : Date × Deposit). bytes_eq x.1.description.class name) (λ x. due_number (due_of x.1.description.closed years))

  -- each closing day is read, and the due day set
  pub days_set : (h : History) (xs : List (Date × Deposit)) (start : ℕ) (t : Tables) → AllByRecursion IsDeposited xs
      → with_due_days years (map closing_of (filter (is_of_class name) (rows_from (deposit_row h) start xs))) t ≡ Some (record t { dues = set_all (days_from start xs) t.dues })
  days_set h [] start t all = refl
  days_set h (x ∷ xs) start t all = by (bytes_eq x.1.description.class name) (λ s. days_set h xs (start + 1) s all.1)
    where
      by : (b : Bool) → ((s : Tables) → with_due_days years (map closing_of (filter (is_of_class name) (rows_from (deposit_row h) (start + 1) xs))) s ≡ Some (record s { dues = set_all (days_from (start + 1) xs) s.dues }))
          → with_due_days years (map closing_of (cond b (deposit_row h start x ∷ filter (is_of_class name) (rows_from (deposit_row h) (start + 1) xs)) (filter (is_of_class name) (rows_from (deposit_row h) (start + 1) xs)))) t
          ≡ Some (record t { dues = set_all (cond b ((pos start, due_number (due_of x.1.description.closed years)) ∷ days_from (start + 1) xs) (days_from (start + 1) xs)) t.dues })
      by true rest =
          (λ i. day_back (epoch_day x.1.description.closed) x.1.description.closed refl (day_number x.1.description.closed all.0.1.closed) i >>= λ closed. with_due_days years (map closing_of (filter (is_of_class name) (rows_from (deposit_row h) (start + 1) xs))) (with_due (pos start) (due_number (due_of closed years)) t))
          ∙ rest (with_due (pos start) (due_number (due_of x.1.description.closed years)) t)
      by false rest = rest t

-- ---- a class is defined or revised

module _ (h : History) (day : Date) (name : List ℕ) (years : Option ℕ) where
  abbrev more : List Change
  more = DefinedClass day name years ∷ []

  abbrev longer : History
  longer = with_changes h more

  -- a row with the due day of the longer history is that history's
  row_then : (m : ℕ) (x : Date × Deposit) (due_is : Option ℤ) → due_is ≡ due_number (due longer x.1) → record (due_row h m x) { due = due_is } ≡ due_row longer m x
  row_then m x due_is e = λ i. record { number = pos m; due = e i; holds = pos (length (sym (same_live h more refl (λ k. refl) m x.1) i)) }

  -- the days that are set are those of these years
  pub days_revised : set_all (days_from name years 1 (deposits h)) (due_rows h) ≡ due_rows longer
  days_revised =
      ap (set_all (days_from name years 1 (deposits h))) (due_rows_are h)
      ∙ set_from (λ (x : Date × Deposit). bytes_eq x.1.description.class name) (λ x. due_number (due_of x.1.description.closed years)) (due_row h) (due_row longer) (λ m x. refl) sets keeps (deposits h) 1
      ∙ ap (rows_from (due_row longer) 1) (sym (same_deposits h more refl))
      ∙ sym (due_rows_are longer)
    where
      now : (x : Date × Deposit) (b : Bool) → bytes_eq x.1.description.class name ≡ b → years_of longer x.1.description.class ≡ option_or (if b then Some years else None) (years_of h x.1.description.class)
      now x b e = years_grown h more x.1.description.class ∙ ap (λ c. option_or (if c then Some years else None) (years_of h x.1.description.class)) (bytes_eq-sym name x.1.description.class ∙ e)

      sets : (m : ℕ) (x : Date × Deposit) → bytes_eq x.1.description.class name ≡ true → record (due_row h m x) { due = due_number (due_of x.1.description.closed years) } ≡ due_row longer m x
      sets m x e = row_then m x (due_number (due_of x.1.description.closed years)) (ap (λ o. due_number (option_map_or (due_of x.1.description.closed) o Never)) (sym (now x true e)))

      keeps : (m : ℕ) (x : Date × Deposit) → bytes_eq x.1.description.class name ≡ false → due_row h m x ≡ due_row longer m x
      keeps m x e = row_then m x (due_number (due h x.1)) (ap (λ o. due_number (option_map_or (due_of x.1.description.closed) o Never)) (sym (now x false e)))
