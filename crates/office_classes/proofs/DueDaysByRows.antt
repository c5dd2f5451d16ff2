-- The due days of the deposits of a class, by the rows, whichever they are.
use Rattle.office_classes.proofs.Common.{◌≡◌, ℕ, zero, suc, ℤ, pos, ◌+ℤ◌, ◌≤ℤ◌, Bool, true, false, ◌&&◌, ◌||◌, List, [], ◌∷◌, ◌++◌, map, Option, Some, None, option_map, refl, sym, ap, ap₂, ◌∙◌, if◌then◌else◌, append_assoc, arith, ints, due_number, due_of, DueRow, Tables, has_class, is_due_between, is_due_of, with_class, with_due, with_dues, with_new_class, with_years, ClosingRow, class_closings, with_due_days, day_numbered}
use Rattle.std.specs.Ordering.{int_cmp, int_eq, is_ge, is_le}
use Rattle.jiff.specs.Types.{Date}
use Rattle.office_core.specs.FirstOf.{◌>>=◌}

-- ---- a series: rows whose numbers follow one another, with one closing day

abbrev pub next_of : ClosingRow → ClosingRow
next_of row = record { number = row.number +ℤ pos 1; closed = row.closed }

-- this row and that number of rows after it
abbrev pub series_from : ClosingRow → ℕ → List ClosingRow
series_from row zero = row ∷ []
series_from row (suc more) = row ∷ series_from (next_of row) more

abbrev pub last_of : ClosingRow → ℕ → ClosingRow
last_of row zero = row
last_of row (suc more) = last_of (next_of row) more

pub series_longer : (row : ClosingRow) (more : ℕ) → series_from row more ++ next_of (last_of row more) ∷ [] ≡ series_from row (suc more)
series_longer row zero = refl
series_longer row (suc more) = ap (λ rows. row ∷ rows) (series_longer (next_of row) more)

pub last_later : (row : ClosingRow) (more : ℕ) → next_of (last_of row more) ≡ last_of row (suc more)
last_later row zero = refl
last_later row (suc more) = last_later (next_of row) more

not_below : (row : ClosingRow) (more : ℕ) → row.number ≤ℤ (last_of row more).number
not_below row zero = omega (arith, ints)
not_below row (suc more) = let later = not_below (next_of row) more in omega (arith, ints)

-- the last of these rows are a series, with this first and last row
pub record EndsInSeries (rows : List ClosingRow) (first last : ClosingRow) : Type 0 where
  pub before : List ClosingRow
  pub more : ℕ
  pub are : rows ≡ before ++ series_from first more
  pub ends : last ≡ last_of first more

-- one more row, that goes on with the series
abbrev pub goes_on : (rows all : List ClosingRow) (first last next from to : ClosingRow) → EndsInSeries rows first last → next ≡ next_of last → rows ++ next ∷ [] ≡ all → from ≡ first → to ≡ next → EndsInSeries all from to
goes_on rows all first last next from to it follows more same is =
    let later : next ≡ next_of (last_of first it.more) = follows ∙ ap next_of it.ends in
    record {
      before = it.before;
      more = suc it.more;
      are = sym more ∙ (λ i. it.are i ++ later i ∷ []) ∙ append_assoc it.before (series_from first it.more) (next_of (last_of first it.more) ∷ []) ∙ ap (λ rows. it.before ++ rows) (series_longer first it.more) ∙ ap (λ row. it.before ++ series_from row (suc it.more)) (sym same);
      ends = is ∙ later ∙ last_later first it.more ∙ ap (λ row. last_of row (suc it.more)) (sym same);
    }

-- one more row, that begins another
abbrev pub begins : (rows all : List ClosingRow) (next from to : ClosingRow) → rows ++ next ∷ [] ≡ all → from ≡ next → to ≡ next → EndsInSeries all from to
begins rows all next from to more same is = record { before = rows; more = 0; are = sym more ∙ ap (λ row. rows ++ row ∷ []) (sym same); ends = is ∙ sym same }

-- ---- the due days between two numbers

module _ (due : Option ℤ) where
  abbrev set : DueRow → DueRow
  set d = record d { due = due }

  alone : (x n : ℤ) → int_eq x n ≡ (is_ge (int_cmp x n) && is_le (int_cmp x n))
  alone x n = grind (arith, ints)

  one_alone : (n : ℤ) (dues : List DueRow) → map (λ d. if is_due_of n d then set d else d) dues ≡ map (λ d. if is_due_between n n d then set d else d) dues
  one_alone n [] = refl
  one_alone n (d ∷ dues) = ap₂ (λ (b : Bool) more. (if b then set d else d) ∷ more) (alone d.number n) (one_alone n dues)

  first_or_later : (x n last : ℤ) → (n +ℤ pos 1) ≤ℤ last → (int_eq x n || (is_ge (int_cmp x (n +ℤ pos 1)) && is_le (int_cmp x last))) ≡ (is_ge (int_cmp x n) && is_le (int_cmp x last))
  first_or_later x n last low = grind (arith, ints)

  -- that of the first number, and then those of the later ones
  one_and_others : (n last : ℤ) → (n +ℤ pos 1) ≤ℤ last → (dues : List DueRow)
      → map (λ d. if is_due_between (n +ℤ pos 1) last d then set d else d) (map (λ d. if is_due_of n d then set d else d) dues) ≡ map (λ d. if is_due_between n last d then set d else d) dues
  one_and_others n last low [] = refl
  one_and_others n last low (d ∷ dues) =
      ap₂ ◌∷◌ (either (is_due_of n d) ∙ ap (λ (b : Bool). if b then set d else d) (first_or_later d.number n last low)) (one_and_others n last low dues)
    where
      twice : (b : Bool) → (if b then set d else set d) ≡ set d
      twice true = refl
      twice false = refl

      either : (b : Bool) → (let e = if b then set d else d in if is_due_between (n +ℤ pos 1) last e then set e else e) ≡ (if b || is_due_between (n +ℤ pos 1) last d then set d else d)
      either true = twice (is_due_between (n +ℤ pos 1) last d)
      either false = refl

-- ---- due days in turn

module _ (years : Option ℕ) where
  -- the due days of some deposits, and then those of others
  days_then : (rows others : List ClosingRow) (t : Tables) → with_due_days years (rows ++ others) t ≡ (with_due_days years rows t >>= with_due_days years others)
  days_then [] others t = refl
  days_then (row ∷ rows) others t = by (day_numbered row.closed) (λ closed. days_then rows others (with_due row.number (due_number (due_of closed years)) t))
    where
      by : (day : Option Date) → ((closed : Date) → with_due_days years (rows ++ others) (with_due row.number (due_number (due_of closed years)) t) ≡ (with_due_days years rows (with_due row.number (due_number (due_of closed years)) t) >>= with_due_days years others))
          → (day >>= λ closed. with_due_days years (rows ++ others) (with_due row.number (due_number (due_of closed years)) t))
          ≡ ((day >>= λ closed. with_due_days years rows (with_due row.number (due_number (due_of closed years)) t)) >>= with_due_days years others)
      by None rest = refl
      by (Some closed) rest = rest closed

  series_set : (row : ClosingRow) (more : ℕ) (closed : Date) → day_numbered row.closed ≡ Some closed → (t : Tables)
      → with_due_days years (series_from row more) t ≡ Some (with_dues row.number (last_of row more).number (due_number (due_of closed years)) t)
  series_set row zero closed is t = rw is (ap (λ dues. Some (record t { dues = dues })) (one_alone (due_number (due_of closed years)) row.number t.dues))
  series_set row (suc more) closed is t =
      let due = due_number (due_of closed years) in
      rw is (series_set (next_of row) more closed is (with_due row.number due t)
      ∙ ap (λ dues. Some (record t { dues = dues })) (one_and_others due row.number (last_of (next_of row) more).number (not_below (next_of row) more) t.dues))

  series_without : (row : ClosingRow) (more : ℕ) → day_numbered row.closed ≡ None → (t : Tables) → with_due_days years (series_from row more) t ≡ None
  series_without row zero is t = rw is refl
  series_without row (suc more) is t = rw is refl

  -- from the first row to the last, with the closing day of the first
  abbrev pub with_series : ClosingRow → ClosingRow → Tables → Option Tables
  with_series first last t = option_map (λ closed. with_dues first.number last.number (due_number (due_of closed years)) t) (day_numbered first.closed)

  days_of_series : (row : ClosingRow) (more : ℕ) (t : Tables) → with_due_days years (series_from row more) t ≡ with_series row (last_of row more) t
  days_of_series row more t = by (day_numbered row.closed) refl
    where
      by : (day : Option Date) → day_numbered row.closed ≡ day → with_due_days years (series_from row more) t ≡ option_map (λ closed. with_dues row.number (last_of row more).number (due_number (due_of closed years)) t) day
      by None is = series_without row more is t
      by (Some closed) is = series_set row more closed is t

  -- the due days of the rows before the series, and then those of the series
  pub days_with_series : (rows : List ClosingRow) (first last : ClosingRow) → (it : EndsInSeries rows first last) → (t : Tables) → (with_due_days years it.before t >>= with_series first last) ≡ with_due_days years rows t
  days_with_series rows first last it t =
      ap (λ row. with_due_days years it.before t >>= with_series first row) it.ends
      ∙ (λ i. with_due_days years it.before t >>= λ next. sym (days_of_series first it.more next) i)
      ∙ sym (days_then it.before (series_from first it.more) t)
      ∙ ap (λ all. with_due_days years all t) (sym it.are)

-- a class that is put leaves the closing days
pub closings_still : (name : List ℕ) (years : ℤ) (t : Tables) → class_closings name (with_class name years t) ≡ class_closings name t
closings_still name years t = by (has_class name t)
  where
    by : (b : Bool) → class_closings name (if b then with_years name years t else with_new_class name years t) ≡ class_closings name t
    by true = refl
    by false = refl
