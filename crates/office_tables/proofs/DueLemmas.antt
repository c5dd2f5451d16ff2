-- What the statements on due days and on counts of holds do to the rows of an office.
use Rattle.office_tables.proofs.FirstLemmas.{if◌then◌else◌, IsTrue, ◌≡◌, ◌⊎◌, ◌&&◌, codes, Float, is_nan, ℕ, ℤ, pos, ◌+ℤ◌, List, [], ◌∷◌, map, filter, slice_get, option_map, Bool, true, false, Option, Some, None, Ok, refl, sym, ap, ap₂, subst, subst₂, ◌∙◌, inl, inr, int_cmp, is_le, is_ge, Value, Null, Int, Real, Text, Row, column, value_cmp, id_in, edit_of, edited, Given, cast, cast_row, rowid, Binary, unary, binary, is_true, fits_i64, from_truth, State, Shown, Executes, Compare, Arith, Eq, Ge, Le, Add, TypeOf, int_or, real, cases_Bool, value_cmp-Int, is_int, Has, ids_of, all_has, all_from, mapped_has, int_is, ascending_weaker, map-map, filter-map, int_at, bytes_at, maybe_int, same_int, same_text, Update, scan, as_program, passes, shown_of, finds_one, Means, reads_same, reads_rising, IsText, has_text, by_text, each_passes, by_number, has_number, each_numbered, few_numbered, rising, decoded, cast_null, cast_int, map_alike, revises, rows_after, office_schema, deposit_place, deposit_table, deposit_tree, DepositRow, DueRow, is_due_of, is_due_between, due_numbered, with_due, with_dues, with_holds, beside, more_holds, with_more_holds, with_more_holds_class, is_within, is_of_class, of_class, least_number, is_by, is_disposable, IsOffice, Becomes, tables_of, deposit_in, due_in, of_deposits, idle, becomes, keeps_int, null_is, deposit_with, Term, lit, col, eval, reads_numbered, lists_all}
use Rattle.sqlite.specs.Kind.TheVariants as kind
use Rattle.sql_meaning.proofs.ManyRows.{revises_all}
use Rattle.office_rows.specs.Told.{disposable_row, closing_of, disposable_rows, class_closings}
use Rattle.office_tables.specs.Dues.{shown_due, shown_beside, shown_disposable, shown_closing, FitMore, dues_of}
use Rattle.office_tables.proofs.DepositLemmas.{IsDepositRow, deposit_rows, with_last, cast_last, kept_alike}
use Rattle.office_tables.proofs.DueTexts.{class_rows_text, class_rows_columns, due_of_text, due_of_columns, set_due_text, clear_due_text, set_dues_text, clear_dues_text, by_numbers, set_holds_text, add_holds_text, more_columns, add_holds_class_text, due_rows_text, is_due, due_rows_columns, beside_text, due_meanings}

-- ---- one deposit

pub finds_due : (old new : State) (n : ℤ) (rows : List Row) → IsOffice old.now → Shown due_of_text (Int n ∷ []) old new rows
    → (new.now ≡ old.now) × (due_numbered n (tables_of old.now).dues ≡ option_map shown_due (slice_get rows 0))
finds_due old new n rows office h =
    let read = reads_numbered old new rows office due_meanings.asks_due_of n (of_deposits office.whole.shaped) h in
    (read.0, finds_one (old.now.trees deposit_tree) rows (has_number n) (shown_of (Int n ∷ []) due_of_columns) due_in shown_due (is_due_of n) (λ r. refl) (λ r. refl) read.1)

-- a text by which it gets this value as its day
module _ (text : List ℕ) (n : ℤ) (more : Row) (day : Term) (value : Value) (due : Option ℤ) (means : Means office_schema text (Update deposit_place (as_program (scan deposit_tree by_number (deposit_with 10 day) []))))
    (shows : (r : Row) → eval day ((Int n ∷ more) ∷ r ∷ []) ≡ value) (keeps : cast kind.Integer value ≡ value) (is : maybe_int value ≡ due) where
  sets_day : (old new : State) (count : ℕ) → IsOffice old.now → Executes text (Int n ∷ more) old new (Ok count) → Becomes new.now (with_due n due (tables_of old.now))
  sets_day old new count office h =
      let db = old.now.trees in
      let shaped = of_deposits office.whole.shaped in
      let set : Row → Row = λ r. with_last (column r 9) value (column r 11) r in
      let done = revises text (Int n ∷ more) old new office_schema office.whole.schema_is deposit_place deposit_table refl idle shaped by_number (deposit_with 10 day)
      (has_number n) (each_numbered n more (db deposit_tree) shaped) means set (few_numbered n (db deposit_tree) shaped)
      (λ r there.
      let it = all_has IsDepositRow (db deposit_tree) r (deposit_rows old.now office) there in (
        refl,
        ap (λ v. cast_row deposit_table (with_last (column r 9) v (column r 11) r)) (shows r)
            ∙ cast_last (column r 9) value (column r 11) r it (all_has _ (db deposit_tree) r shaped.1 there) (keeps_int (column r 9) it.gone) keeps (keeps_int (column r 11) (inr it.holds)),
        refl,
      )) count h in
      let edit = edit_of db deposit_table (ids_of done.answer) Given 1 done.answer in
      let deposits_are : map deposit_in (edited db edit) ≡ map deposit_in (db deposit_tree) = ap (map deposit_in) done.made ∙ kept_alike deposit_in (has_number n) set (λ r. refl) (db deposit_tree) in
      let dues_are = decoded due_in (has_number n) set (is_due_of n) (λ d. record d { due = due }) (λ r. refl) (λ r. ap (λ day. record (due_in r) { due = day }) is) (db deposit_tree) in
      becomes old new edit count edit.news office refl done.change _ (ap₂ (λ rows dues. record (tables_of old.now) { deposits = rows; dues = dues }) deposits_are (ap (map due_in) done.made ∙ dues_are))

pub sets_due : (old new : State) (n day : ℤ) (count : ℕ) → IsOffice old.now → Executes set_due_text (Int n ∷ Int day ∷ []) old new (Ok count)
    → Becomes new.now (with_due n (Some day) (tables_of old.now))
sets_due old new n day = sets_day set_due_text n (Int day ∷ []) (col 0 1) (Int day) (Some day) due_meanings.set_due_means (λ r. refl) (cast_int day) refl old new

pub clears_due : (old new : State) (n : ℤ) (count : ℕ) → IsOffice old.now → Executes clear_due_text (Int n ∷ []) old new (Ok count)
    → Becomes new.now (with_due n None (tables_of old.now))
clears_due old new n = sets_day clear_due_text n [] (lit Null) Null None due_meanings.clear_due_means (λ r. refl) cast_null refl old new

pub sets_holds : (old new : State) (n holds : ℤ) (count : ℕ) → IsOffice old.now → Executes set_holds_text (Int n ∷ Int holds ∷ []) old new (Ok count)
    → Becomes new.now (with_holds n holds (tables_of old.now))
sets_holds old new n holds count office h =
    let db = old.now.trees in
    let shaped = of_deposits office.whole.shaped in
    let set : Row → Row = λ r. with_last (column r 9) (column r 10) (Int holds) r in
    let done = revises set_holds_text (Int n ∷ Int holds ∷ []) old new office_schema office.whole.schema_is deposit_place deposit_table refl idle shaped by_number (deposit_with 11 (col 0 1))
    (has_number n) (each_numbered n (Int holds ∷ []) (db deposit_tree) shaped) due_meanings.set_holds_means set (few_numbered n (db deposit_tree) shaped)
    (λ r there.
    let it = all_has IsDepositRow (db deposit_tree) r (deposit_rows old.now office) there in
    (refl, cast_last (column r 9) (column r 10) (Int holds) r it (all_has _ (db deposit_tree) r shaped.1 there) (keeps_int (column r 9) it.gone) (keeps_int (column r 10) it.due) (cast_int holds), refl)) count h in
    let edit = edit_of db deposit_table (ids_of done.answer) Given 1 done.answer in
    let deposits_are : map deposit_in (edited db edit) ≡ map deposit_in (db deposit_tree) = ap (map deposit_in) done.made ∙ kept_alike deposit_in (has_number n) set (λ r. refl) (db deposit_tree) in
    let dues_are = decoded due_in (has_number n) set (is_due_of n) (λ d. record d { holds = holds }) (λ r. refl) (λ r. refl) (db deposit_tree) in
    becomes old new edit count edit.news office refl done.change _ (ap₂ (λ rows dues. record (tables_of old.now) { deposits = rows; dues = dues }) deposits_are (ap (map due_in) done.made ∙ dues_are))

-- ---- more holds over those that pass

-- the sum, and NULL where 64 bits don't hold it
abbrev sum_or_null : ℤ → ℤ → Value
sum_or_null m n = if fits_i64 (m +ℤ n) then Int (m +ℤ n) else Null

abbrev if_integer : Value → Value
if_integer v = if is_true (binary (Compare Eq Binary) (unary TypeOf v) (Text (codes "integer"))) then v else Null

-- a sum that 64 bits don't hold is a float, or NULL
float_left : (x : Float) → if_integer (real x) ≡ Null
unfolding unary
float_left x = elim (is_nan x) as (λ b. if_integer (if b then Null else Real x) ≡ Null) [
  | true ↦ ap (λ b. if b then Null else Null) (same_text (codes "null") (codes "integer"))
  | false ↦ ap (λ b. if b then Real x else Null) (same_text (codes "real") (codes "integer"))
]

sum_left : (n : ℤ) (x : Float) (b : Bool) → if_integer (int_or (if b then Some n else None) (real x)) ≡ (if b then Int n else Null)
unfolding unary
sum_left n x true = ap (λ b. if b then Int n else Null) (same_text (codes "integer") (codes "integer"))
sum_left n x false = float_left x

sum_is : (m n : ℤ) → if_integer (binary (Arith Add) (Int m) (Int n)) ≡ sum_or_null m n
unfolding binary
sum_is m n = sum_left (m +ℤ n) _ (fits_i64 (m +ℤ n))

cast_sum : (m n : ℤ) → cast kind.Integer (sum_or_null m n) ≡ sum_or_null m n
cast_sum m n = elim (fits_i64 (m +ℤ n)) as (λ b. cast kind.Integer (if b then Int (m +ℤ n) else Null) ≡ (if b then Int (m +ℤ n) else Null)) [ true ↦ cast_int (m +ℤ n) | false ↦ cast_null ]

-- what stands there as an integer is the sum
sum_fits : (m n k : ℤ) → sum_or_null m n ≡ Int k → fits_i64 (m +ℤ n) ≡ true
sum_fits m n k = by (fits_i64 (m +ℤ n))
  where
    by : (b : Bool) → (if b then Int (m +ℤ n) else Null) ≡ Int k → b ≡ true
    by true is = refl
    by false is = absurd cc

abbrev set_sum : ℤ → Row → Row
set_sum by r = with_last (column r 9) (column r 10) (sum_or_null (int_at r 11) by) r

abbrev set_more : ℤ → Row → Row
set_more by r = with_last (column r 9) (column r 10) (Int (int_at r 11 +ℤ by)) r

-- where each of those fits, the sums are set
sums_set : (by : ℤ) (keep : Row → Bool) (rows : List Row) → ((r : Row) → Has rows r → keep r ≡ true → fits_i64 (int_at r 11 +ℤ by) ≡ true)
    → map (λ r. if keep r then set_sum by r else r) rows ≡ map (λ r. if keep r then set_more by r else r) rows
sums_set by keep rows fits = map_alike (λ r. if keep r then set_sum by r else r) (λ r. if keep r then set_more by r else r) rows (λ r there. one r (keep r) (fits r there))
  where
    one : (r : Row) (b : Bool) → (b ≡ true → fits_i64 (int_at r 11 +ℤ by) ≡ true) → (if b then set_sum by r else r) ≡ (if b then set_more by r else r)
    one r true fit = ap (λ b. with_last (column r 9) (column r 10) (if b then Int (int_at r 11 +ℤ by) else Null) r) (fit refl)
    one r false fit = refl

-- and so do those of the typed rows
fit_those : (those : DepositRow → Bool) (by : ℤ) (keep : Row → Bool) → ((r : Row) → those (deposit_in r) ≡ keep r) → (rows : List Row)
    → ((r : Row) → Has rows r → keep r ≡ true → fits_i64 (int_at r 11 +ℤ by) ≡ true) → FitMore by (map (λ p. p.1) (filter (λ p. those p.0) (beside (map deposit_in rows) (map due_in rows))))
fit_those those by keep tests [] fits = tt
fit_those those by keep tests (r ∷ rows) fits = elim (cases_Bool (those (deposit_in r))) [
  | inl is ↦ rw is (fits r (inl refl) (sym (tests r) ∙ is), fit_those those by keep tests rows (λ x there. fits x (inr there)))
  | inr isnt ↦ rw isnt (fit_those those by keep tests rows (λ x there. fits x (inr there)))
]

-- the typed rows, in two lists beside one another
more_decoded : (those : DepositRow → Bool) (by : ℤ) (keep : Row → Bool) → ((r : Row) → those (deposit_in r) ≡ keep r) → (rows : List Row)
    → map due_in (map (λ r. if keep r then set_more by r else r) rows) ≡ more_holds those by (map deposit_in rows) (map due_in rows)
more_decoded those by keep tests [] = refl
more_decoded those by keep tests (r ∷ rows) = rw (tests r) (ap₂ (λ y more. y ∷ more) (one (keep r)) (more_decoded those by keep tests rows))
  where
    one : (b : Bool) → due_in (if b then set_more by r else r) ≡ (if b then record (due_in r) { holds = (due_in r).holds +ℤ by } else due_in r)
    one true = refl
    one false = refl

-- a text by which each deposit with that text in the column gets as many more
module _ (text : List ℕ) (place : ℕ) (means : Means office_schema text (Update deposit_place (as_program (scan deposit_tree (by_text place) more_columns [])))) (typed : (r : Row) → IsDepositRow r → IsText place r)
    (those : DepositRow → Bool) (name : List ℕ) (tests : (r : Row) → those (deposit_in r) ≡ has_text place name r) where
  adds_to : (old new : State) (by : ℤ) (count : ℕ) → IsOffice old.now → Executes text (Text name ∷ Int by ∷ []) old new (Ok count)
      → Becomes new.now (record (tables_of old.now) { dues = more_holds those by (tables_of old.now).deposits (tables_of old.now).dues }) × FitMore by (dues_of those (tables_of old.now))
  adds_to old new by count office h =
      let db = old.now.trees in
      let shaped = of_deposits office.whole.shaped in
      let keep : Row → Bool = has_text place name in
      let rows_are = deposit_rows old.now office in
      let texts = all_from (IsText place) (db deposit_tree) (λ r there. typed r (all_has IsDepositRow (db deposit_tree) r rows_are there)) in
      let done = revises_all text (Text name ∷ Int by ∷ []) old new office_schema office.whole.schema_is deposit_place deposit_table refl idle shaped (by_text place) more_columns keep (each_passes place name (Int by ∷ []) (db deposit_tree) texts)
      means (set_sum by) (λ r. refl) (λ r there kept.
      let it = all_has IsDepositRow (db deposit_tree) r rows_are there in
      let sum : if_integer (binary (Arith Add) (column r 11) (Int by)) ≡ sum_or_null (int_at r 11) by = ap (λ v. if_integer (binary (Arith Add) v (Int by))) it.holds ∙ sum_is (int_at r 11) by in (
        ap (λ v. cast_row deposit_table (with_last (column r 9) (column r 10) v r)) sum
            ∙ cast_last (column r 9) (column r 10) (sum_or_null (int_at r 11) by) r it (all_has _ (db deposit_tree) r shaped.1 there) (keeps_int (column r 9) it.gone) (keeps_int (column r 10) it.due) (cast_sum (int_at r 11) by),
        refl,
      )) count h in
      let edit = edit_of db deposit_table (ids_of done.answer) Given 1 done.answer in
      let revised : Row → Row = λ r. if keep r then set_sum by r else r in
      let after = becomes old new edit count edit.news office refl done.change _ refl in
      let rows_now : new.now.trees deposit_tree ≡ map revised (db deposit_tree) = of_deposits (rows_after office_schema old new edit count edit.news done.change) ∙ done.made in
      let fits : (r : Row) → Has (db deposit_tree) r → keep r ≡ true → fits_i64 (int_at r 11 +ℤ by) ≡ true = λ r there kept.
      let set_there : Has (new.now.trees deposit_tree) (set_sum by r) = subst₂ (λ rs x. Has rs x) (sym rows_now) (ap (λ b. if b then set_sum by r else r) kept) (mapped_has revised (db deposit_tree) r there) in
      sum_fits (int_at r 11) by (int_at (set_sum by r) 11) (all_has IsDepositRow (new.now.trees deposit_tree) (set_sum by r) (deposit_rows new.now after.office) set_there).holds in
      let made = done.made ∙ sums_set by keep (db deposit_tree) fits in
      let deposits_are : map deposit_in (edited db edit) ≡ map deposit_in (db deposit_tree) = ap (map deposit_in) made ∙ kept_alike deposit_in keep (set_more by) (λ r. refl) (db deposit_tree) in
      let dues_are = more_decoded those by keep tests (db deposit_tree) in (
        becomes old new edit count edit.news office refl done.change _ (ap₂ (λ rows dues. record (tables_of old.now) { deposits = rows; dues = dues }) deposits_are (ap (map due_in) made ∙ dues_are)),
        fit_those those by keep tests (db deposit_tree) fits,
      )

pub adds_holds : (old new : State) (collection : List ℕ) (by : ℤ) (count : ℕ) → IsOffice old.now → Executes add_holds_text (Text collection ∷ Int by ∷ []) old new (Ok count)
    → Becomes new.now (with_more_holds collection by (tables_of old.now)) × FitMore by (dues_of (is_within collection) (tables_of old.now))
adds_holds old new collection = adds_to add_holds_text 3 due_meanings.add_holds_means (λ r it. it.collection) (is_within collection) collection (λ r. refl) old new

pub adds_holds_class : (old new : State) (class : List ℕ) (by : ℤ) (count : ℕ) → IsOffice old.now → Executes add_holds_class_text (Text class ∷ Int by ∷ []) old new (Ok count)
    → Becomes new.now (with_more_holds_class class by (tables_of old.now)) × FitMore by (dues_of (is_of_class class) (tables_of old.now))
adds_holds_class old new class = adds_to add_holds_class_text 4 due_meanings.add_holds_class_means (λ r it. it.class) (is_of_class class) class (λ r. refl) old new

-- ---- what may be destroyed

pub truth_back : (b : Bool) → is_true (from_truth (Some b)) ≡ b
truth_back true = refl
truth_back false = refl

not_before : (m n : ℤ) → is_true (binary (Compare Ge Binary) (Int m) (Int n)) ≡ is_ge (int_cmp m n)
unfolding binary
not_before m n = truth_back (is_ge (value_cmp (Int m) (Int n))) ∙ ap is_ge (value_cmp-Int m n)

pub by_day : (m n : ℤ) → is_true (binary (Compare Le Binary) (Int m) (Int n)) ≡ is_le (int_cmp m n)
unfolding binary
by_day m n = truth_back (is_le (value_cmp (Int m) (Int n))) ∙ ap is_le (value_cmp-Int m n)

-- from that number on and by that day
abbrev within : ℤ → ℤ → Value → Bool
within least day v = is_true (binary (Compare Ge Binary) v (Int least)) && is_true (binary (Compare Le Binary) v (Int day))

never_within : (least day : ℤ) → within least day Null ≡ false
unfolding binary
never_within least day = refl

day_is : (v : Value) (day : ℤ) → (v ≡ Null) ⊎ (v ≡ Int (id_in v)) → within least_number day v ≡ is_by day (maybe_int v)
day_is v day (inl is) = subst (λ w. within least_number day w ≡ is_by day (maybe_int w)) (sym is) (never_within least_number day)
day_is v day (inr is) = subst (λ w. within least_number day w ≡ is_by day (maybe_int w)) (sym is) (ap₂ (λ a b. a && b) (not_before (id_in v) least_number) (by_day (id_in v) day))

pub and_end : (a b : Bool) → (a && (b && true)) ≡ (a && b)
and_end true true = refl
and_end true false = refl
and_end false b = refl

passes_due : (day : ℤ) (r : Row) → IsDepositRow r → passes (Int day ∷ Int least_number ∷ []) is_due r ≡ is_disposable day (deposit_in r, due_in r)
passes_due day r it =
    ap₂ (λ a b. a && b) (null_is (column r 9) it.gone)
    (ap₂ (λ a b. a && b) (ap (λ v. is_true (binary (Compare Eq Binary) v (Int (pos 0)))) it.holds ∙ same_int (int_at r 11) (pos 0))
    (and_end (is_true (binary (Compare Ge Binary) (column r 10) (Int least_number))) (is_true (binary (Compare Le Binary) (column r 10) (Int day))) ∙ day_is (column r 10) day it.due))

beside_is : (rows : List Row) → beside (map deposit_in rows) (map due_in rows) ≡ map (λ r. (deposit_in r, due_in r)) rows
beside_is [] = refl
beside_is (r ∷ rows) = ap (λ more. (deposit_in r, due_in r) ∷ more) (beside_is rows)

pub lists_beside : (old new : State) (rows : List Row) → IsOffice old.now → Shown beside_text [] old new rows
    → (new.now ≡ old.now) × (beside (tables_of old.now).deposits (tables_of old.now).dues ≡ map shown_beside rows)
lists_beside old new rows office h =
    let read = lists_all old new rows office due_meanings.asks_beside (of_deposits office.whole.shaped) (λ r. (deposit_in r, due_in r)) shown_beside (λ r. refl) h in
    (read.0, beside_is (old.now.trees deposit_tree) ∙ read.1)

pub lists_due : (old new : State) (day : ℤ) (rows : List Row) → IsOffice old.now → Shown due_rows_text (Int day ∷ Int least_number ∷ []) old new rows
    → (new.now ≡ old.now) × (disposable_rows day (tables_of old.now) ≡ map shown_disposable rows)
lists_due old new day rows office h =
    let db = old.now.trees in
    let params : Row = Int day ∷ Int least_number ∷ [] in
    let typed = deposit_rows old.now office in
    let pair : Row → DepositRow × DueRow = λ r. (deposit_in r, due_in r) in
    let keep : Row → Bool = λ r. is_disposable day (pair r) in
    let up = ascending_weaker _ _ (λ a b lower. rw lower refl) (db deposit_tree) (of_deposits office.whole.shaped).0 in
    let each = all_from (λ r. passes params is_due r ≡ keep r) (db deposit_tree) (λ r there. passes_due day r (all_has IsDepositRow (db deposit_tree) r typed there)) in
    let is = reads_rising office_schema due_rows_text deposit_tree is_due due_rows_columns rising due_meanings.asks_due_rows params old new office.whole.schema_is rows h keep each up in
    let shows : map shown_disposable (map (shown_of params due_rows_columns) (filter keep (db deposit_tree))) ≡ map (λ r. disposable_row (pair r)) (filter keep (db deposit_tree)) = map-map shown_disposable (shown_of params due_rows_columns) (filter keep (db deposit_tree)) in
    let disposables : disposable_rows day (tables_of old.now) ≡ map (λ r. disposable_row (pair r)) (filter keep (db deposit_tree)) =
    ap (λ ps. map disposable_row (filter (is_disposable day) ps)) (beside_is (db deposit_tree)) ∙ ap (map disposable_row) (filter-map (is_disposable day) pair (db deposit_tree)) ∙ map-map disposable_row pair (filter keep (db deposit_tree)) in (
      reads_same office_schema due_rows_text deposit_tree is_due due_rows_columns rising due_meanings.asks_due_rows params old new office.whole.schema_is rows h,
      disposables ∙ sym shows ∙ ap (map shown_disposable) (sym is),
    )

-- ---- the deposits of a class

pub lists_class : (old new : State) (class : List ℕ) (rows : List Row) → IsOffice old.now → Shown class_rows_text (Text class ∷ []) old new rows
    → (new.now ≡ old.now) × (class_closings class (tables_of old.now) ≡ map shown_closing rows)
lists_class old new class rows office h =
    let db = old.now.trees in
    let params : Row = Text class ∷ [] in
    let typed = deposit_rows old.now office in
    let keep : Row → Bool = has_text 4 class in
    let up = ascending_weaker _ _ (λ a b lower. rw lower refl) (db deposit_tree) (of_deposits office.whole.shaped).0 in
    let texts = all_from (λ r. column r 4 ≡ Text (bytes_at r 4)) (db deposit_tree) (λ r there. (all_has IsDepositRow (db deposit_tree) r typed there).class) in
    let is = reads_rising office_schema class_rows_text deposit_tree (by_text 4) class_rows_columns rising due_meanings.asks_class_rows params old new office.whole.schema_is rows h keep (each_passes 4 class [] (db deposit_tree) texts) up in
    let shows : map shown_closing (map (shown_of params class_rows_columns) (filter keep (db deposit_tree))) ≡ map (λ r. closing_of (deposit_in r)) (filter keep (db deposit_tree)) = map-map shown_closing (shown_of params class_rows_columns) (filter keep (db deposit_tree)) in
    let found : map closing_of (of_class class (tables_of old.now)) ≡ map (λ r. closing_of (deposit_in r)) (filter keep (db deposit_tree)) =
    ap (map closing_of) (filter-map (is_of_class class) deposit_in (db deposit_tree)) ∙ map-map closing_of deposit_in (filter keep (db deposit_tree)) in (
      reads_same office_schema class_rows_text deposit_tree (by_text 4) class_rows_columns rising due_meanings.asks_class_rows params old new office.whole.schema_is rows h,
      found ∙ sym shows ∙ ap (map shown_closing) (sym is),
    )

-- ---- the deposits between two numbers

passes_between : (first last : ℤ) (more r : Row) → IsTrue (is_int (rowid r)) → passes (Int first ∷ Int last ∷ more) by_numbers r ≡ is_due_between first last (due_in r)
passes_between first last more r whole =
    and_end (is_true (binary (Compare Ge Binary) (column r 0) (Int first))) (is_true (binary (Compare Le Binary) (column r 0) (Int last)))
    ∙ ap (within first last) (int_is (rowid r) whole)
    ∙ ap₂ (λ a b. a && b) (not_before (int_at r 0) first) (by_day (int_at r 0) last)

-- a text by which each of them gets this value as its day
module _ (text : List ℕ) (more : Row) (day : Term) (value : Value) (due : Option ℤ) (means : Means office_schema text (Update deposit_place (as_program (scan deposit_tree by_numbers (deposit_with 10 day) []))))
    (shows : (first last : ℤ) (r : Row) → eval day ((Int first ∷ Int last ∷ more) ∷ r ∷ []) ≡ value) (keeps : cast kind.Integer value ≡ value) (is : maybe_int value ≡ due) where
  sets_between : (old new : State) (first last : ℤ) (count : ℕ) → IsOffice old.now → Executes text (Int first ∷ Int last ∷ more) old new (Ok count)
      → Becomes new.now (with_dues first last due (tables_of old.now))
  sets_between old new first last count office h =
      let db = old.now.trees in
      let shaped = of_deposits office.whole.shaped in
      let params : Row = Int first ∷ Int last ∷ more in
      let keep : Row → Bool = λ r. is_due_between first last (due_in r) in
      let set : Row → Row = λ r. with_last (column r 9) value (column r 11) r in
      let each = all_from (λ r. passes params by_numbers r ≡ keep r) (db deposit_tree) (λ r there. passes_between first last more r (all_has _ (db deposit_tree) r shaped.1 there)) in
      let done = revises_all text params old new office_schema office.whole.schema_is deposit_place deposit_table refl idle shaped by_numbers (deposit_with 10 day) keep each means set (λ r. refl) (λ r there kept.
      let it = all_has IsDepositRow (db deposit_tree) r (deposit_rows old.now office) there in (
        ap (λ v. cast_row deposit_table (with_last (column r 9) v (column r 11) r)) (shows first last r)
            ∙ cast_last (column r 9) value (column r 11) r it (all_has _ (db deposit_tree) r shaped.1 there) (keeps_int (column r 9) it.gone) keeps (keeps_int (column r 11) (inr it.holds)),
        refl,
      )) count h in
      let edit = edit_of db deposit_table (ids_of done.answer) Given 1 done.answer in
      let deposits_are : map deposit_in (edited db edit) ≡ map deposit_in (db deposit_tree) = ap (map deposit_in) done.made ∙ kept_alike deposit_in keep set (λ r. refl) (db deposit_tree) in
      let dues_are = decoded due_in keep set (is_due_between first last) (λ d. record d { due = due }) (λ r. refl) (λ r. ap (λ day. record (due_in r) { due = day }) is) (db deposit_tree) in
      becomes old new edit count edit.news office refl done.change _ (ap₂ (λ rows dues. record (tables_of old.now) { deposits = rows; dues = dues }) deposits_are (ap (map due_in) done.made ∙ dues_are))

pub sets_dues : (old new : State) (first last day : ℤ) (count : ℕ) → IsOffice old.now → Executes set_dues_text (Int first ∷ Int last ∷ Int day ∷ []) old new (Ok count)
    → Becomes new.now (with_dues first last (Some day) (tables_of old.now))
sets_dues old new first last day = sets_between set_dues_text (Int day ∷ []) (col 0 2) (Int day) (Some day) due_meanings.set_dues_means (λ first last r. refl) (cast_int day) refl old new first last

pub clears_dues : (old new : State) (first last : ℤ) (count : ℕ) → IsOffice old.now → Executes clear_dues_text (Int first ∷ Int last ∷ []) old new (Ok count)
    → Becomes new.now (with_dues first last None (tables_of old.now))
clears_dues = sets_between clear_dues_text [] (lit Null) Null None due_meanings.clear_dues_means (λ first last r. refl) cast_null refl
