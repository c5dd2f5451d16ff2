-- What the statements on holds do to the rows of an office.
use Rattle.office_tables.proofs.FirstLemmas.{arith, ◌+◌, slice_index_or, IsTrue, ◌≡◌, ◌⊎◌, ◌&&◌, ◌||◌, not, unwrap_or, bytes_eq, ℕ, ℤ, pos, Bor, Bool, true, false, List, [], ◌∷◌, ◌++◌, map, filter, slice_get, option_map, Option, Some, None, Ok, Less, refl, ap, ap₂, subst, subst₂, sym, ◌∙◌, inl, inr, AllByRecursion, int_eq, int_cmp, nat_cmp, is_eq, is_lt, ints, IsPermutation, IsSorted, cases_Bool, map-append, int_cmp_total, is_eq-slice_cmp, IsPermutation-refl, IsPermutation-sym, IsPermutation-trans, IsPermutation-append_left, IsPermutation-cons, IsPermutation-middle, IsPermutation-map, Value, Null, Int, Text, Row, column, bytes, value_cmp, or_null, bound_value, id_in, edit_of, with_rowid, Chosen, Given, rowid, IsAscending, Term, Database, cast, cast_row, State, Shown, Executes, Datatype, NotNull, value_cmp-Int, value_cmp-Text, value_cmp-apart, Binary, binary, unary, is_true, truth, from_truth, not3, Compare, Is, Not, Eq, ascending_weaker, ascending-map, ascending-filter, map-map, filter-map, sorted_unique, IsSorted-map, same_text, same_int, found_by, int_itself, ids_of, all_has, all_from, int_is, is_int, IsShaped, int_at, bytes_at, maybe_int, maybe_bytes, maybe_bytes_at, Changes, inserts, none_before, Enforced, passes, shown_of, finds_one, Asks, reads_same, reads_rising, by_number, has_number, each_numbered, few_numbered, one_numbered, rising, typed_at, all_both, decoded, cast_null, cast_int, obeys_rule, revises, office_schema, hold_4_table, hold_tree, HoldRow, put_by, is_hold, hold_numbered, last_number, with_hold, with_released, is_live, holds_deposit, holds_collection, holds_class, is_live_on, is_live_within, is_live_of_class, is_live_over, live_holds, IsOffice, Becomes, tables_of, hold_in, of_holds, idle, becomes, adding, placed, reads_last, cast_maybe, keeps_int, keeps_text, maybe_back, null_is, only, reads_numbered}
use Rattle.sqlite.specs.Kind.TheVariants as kind
use Rattle.sqlite_trees.specs.declared.store.Shape.TheVariants as shape
use Rattle.office_tables.specs.ShownHolds.{shown_hold}
use Rattle.office_tables.proofs.HoldTexts.{hold_text, hold_columns, last_text, put_text, hold_terms, end_text, ended_columns, on_text, on, within_text, within, of_class_text, of_class, hold_meanings}

-- the rows of the holds ascend by number
shaped_holds : (db : Database) → IsOffice db → IsShaped shape.Table (db.trees hold_tree)
shaped_holds db office = of_holds office.whole.shaped

-- ---- reads

pub finds_hold : (old new : State) (k : ℤ) (rows : List Row) → IsOffice old.now → Shown hold_text (Int k ∷ []) old new rows
    → (new.now ≡ old.now) × (hold_numbered k (tables_of old.now).holds ≡ option_map shown_hold (slice_get rows 0))
finds_hold old new k rows office h =
    let read = reads_numbered old new rows office hold_meanings.asks_hold k (shaped_holds old.now office) h in
    (read.0, finds_one (old.now.trees hold_tree) rows (has_number k) (shown_of (Int k ∷ []) hold_columns) hold_in shown_hold (is_hold k) (λ r. refl) (λ r. refl) read.1)

pub finds_last : (old new : State) (rows : List Row) → IsOffice old.now → Shown last_text [] old new rows
    → (new.now ≡ old.now) × (last_number (λ (h : HoldRow). h.number) (tables_of old.now).holds ≡ option_map (λ row. int_at row 0) (slice_get rows 0))
finds_last old new rows office h =
    reads_last hold_tree hold_in (λ (h : HoldRow). h.number) (λ r. refl) office_schema last_text hold_meanings.asks_last old new office.whole.schema_is (shaped_holds old.now office).0 rows h

-- ---- a new hold

abbrev pub params_of : HoldRow → Row
params_of h = Int h.number ∷ or_null Int h.deposit ∷ or_null Text h.collection ∷ or_null Text h.class ∷ Text h.matter ∷ Int h.placed ∷ []

abbrev stored_of : HoldRow → Row
stored_of h = Null ∷ or_null Int h.deposit ∷ or_null Text h.collection ∷ or_null Text h.class ∷ Text h.matter ∷ Int h.placed ∷ Null ∷ []

abbrev row_of : HoldRow → Row
row_of h = Int h.number ∷ stored_of h

cast_text : (t : Option (List ℕ)) → cast kind.Text (or_null Text t) ≡ or_null Text t
cast_text None = refl
cast_text (Some t) = refl

text_back : (t : Option (List ℕ)) (more : Row) → maybe_bytes_at (or_null Text t ∷ more) 0 ≡ t
text_back None more = refl
text_back (Some t) more = refl

-- what is bound of a parameter that may be missing
pub bound_number : (n : Option ℕ) → bound_value (or_null (λ m. Int (pos m)) n) ≡ or_null Int (option_map pos n)
bound_number None = refl
bound_number (Some n) = refl

pub bound_text : (t : Option (Bor (List ℕ))) → bound_value (or_null (λ (s : Bor (List ℕ)). Text s.now) t) ≡ or_null Text (option_map (λ (s : Bor (List ℕ)). s.now) t)
bound_text None = refl
bound_text (Some t) = refl

module _ (old new : State) (hold : HoldRow) (live : hold.released ≡ None) (count : ℕ) (office : IsOffice old.now) (h : Executes put_text (params_of hold) old new (Ok count)) where
  put_change : Changes office_schema old new (adding hold_4_table (row_of hold) old) count (adding hold_4_table (row_of hold) old).news
  put_change = inserts put_text (params_of hold) old new office_schema office.whole.schema_is 9 hold_4_table refl idle hold_terms 8 hold_meanings.put_means refl refl count h

  put_cast : cast_row hold_4_table (row_of hold) ≡ (row_of hold)
  put_cast = rw (cast_null, cast_int hold.number, cast_maybe hold.deposit, cast_text hold.collection, cast_text hold.class, cast_int hold.placed) refl

  pub puts_hold : Becomes new.now (with_hold hold (tables_of old.now))
  puts_hold =
      let number : HoldRow → ℤ = λ g. g.number in
      let is_it : hold_in (row_of hold) ≡ hold = rw (maybe_back hold.deposit [], text_back hold.collection [], text_back hold.class [], live) refl in
      let at_its_place = placed hold_in number (λ r. refl) old new hold_4_table (row_of hold) (stored_of hold) hold.number count (adding hold_4_table (row_of hold) old).news (shaped_holds old.now office) put_cast put_change in
      becomes old new (adding hold_4_table (row_of hold) old) count (adding hold_4_table (row_of hold) old).news office refl put_change _ (ap (λ rows. record (tables_of old.now) { holds = rows }) (at_its_place ∙ ap (λ x. put_by number x (map hold_in (old.now.trees hold_tree))) is_it))

  -- so there was no hold of its number
  pub hold_was_new : hold_numbered hold.number (tables_of old.now).holds ≡ None
  hold_was_new =
      let n = hold.number in
      let stored = old.now.trees hold_tree in
      let is_there : has_number n (with_rowid Chosen stored (cast_row hold_4_table (row_of hold))) ≡ true = ap (λ r. has_number n (with_rowid Chosen stored r)) put_cast ∙ int_itself n in
      let none = none_before office_schema Enforced old.now.trees new.now.trees hold_4_table (row_of hold) put_change.applies (has_number n) is_there (one_numbered (new.now.trees hold_tree) (shaped_holds new.now puts_hold.office) n) in
      found_by (is_hold n) (has_number n) hold_in stored (all_from _ stored (λ r there. refl)) ∙ ap (λ rs. option_map hold_in (slice_get rs 0)) none

-- ---- the end of a hold

abbrev pub IsStoredHold : Row → Type 0
IsStoredHold r = ((column r 2 ≡ Null) ⊎ (column r 2 ≡ Int (int_at r 2))) × ((column r 3 ≡ Null) ⊎ (column r 3 ≡ Text (bytes_at r 3)))
    × ((column r 4 ≡ Null) ⊎ (column r 4 ≡ Text (bytes_at r 4))) × (column r 5 ≡ Text (bytes_at r 5)) × (column r 6 ≡ Int (int_at r 6)) × ((column r 7 ≡ Null) ⊎ (column r 7 ≡ Int (int_at r 7)))

pub hold_rows : (db : Database) → IsOffice db → AllByRecursion IsStoredHold (db.trees hold_tree)
hold_rows db office = all_both (λ r typed present.
    let at = typed_at office_schema db.trees hold_4_table r typed present in
    (at 1 refl, at 2 refl, at 3 refl, at 4 refl, at 5 refl, at 6 refl)) (db.trees hold_tree) (of_holds (obeys_rule office.whole Datatype)) (of_holds (obeys_rule office.whole NotNull))

abbrev ended : ℤ → Row → Row
ended day r = rowid r ∷ Null ∷ column r 2 ∷ column r 3 ∷ column r 4 ∷ column r 5 ∷ column r 6 ∷ Int day ∷ []

cast_ended : (day : ℤ) (r : Row) → IsStoredHold r → IsTrue (is_int (rowid r)) → cast_row hold_4_table (ended day r) ≡ ended day r
cast_ended day r it whole =
    let casts : cast kind.Integer (rowid r) ≡ rowid r = keeps_int (rowid r) (inr (int_is (rowid r) whole)) in
    rw (casts, cast_null, keeps_int (column r 2) it.0, keeps_text (column r 3) it.1, keeps_text (column r 4) it.2, keeps_text (column r 5) (inr it.3), keeps_int (column r 6) (inr it.4), cast_int day) refl

pub ends_hold : (old new : State) (k day : ℤ) (count : ℕ) → IsOffice old.now → Executes end_text (Int k ∷ Int day ∷ []) old new (Ok count)
    → Becomes new.now (with_released k day (tables_of old.now))
ends_hold old new k day count office h =
    let db = old.now.trees in
    let shaped = shaped_holds old.now office in
    let done = revises end_text (Int k ∷ Int day ∷ []) old new office_schema office.whole.schema_is 9 hold_4_table refl idle shaped by_number ended_columns
    (has_number k) (each_numbered k (Int day ∷ []) (db hold_tree) shaped) hold_meanings.end_means (ended day) (few_numbered k (db hold_tree) shaped)
    (λ r there. (refl, cast_ended day r (all_has IsStoredHold (db hold_tree) r (hold_rows old.now office) there) (all_has _ (db hold_tree) r shaped.1 there), refl)) count h in
    let edit = edit_of db hold_4_table (ids_of done.answer) Given 1 done.answer in
    let ended_is = decoded hold_in (has_number k) (ended day) (is_hold k) (λ h. record h { released = Some day }) (λ r. refl) (λ r. refl) (db hold_tree) in
    becomes old new edit count edit.news office refl done.change _ (ap (λ rows. record (tables_of old.now) { holds = rows }) (ap (map hold_in) done.made ∙ ended_is))

-- ---- the live holds

equals_null : (w : Value) → is_true (binary (Compare Eq Binary) Null w) ≡ false
unfolding binary
equals_null w = refl

-- whether the column has the number
abbrev pub numbers : ℤ → Value → Bool
numbers n v = unwrap_or (option_map (λ d. int_eq d n) (maybe_int v)) false

pub deposit_is : (v : Value) (n : ℤ) → (v ≡ Null) ⊎ (v ≡ Int (id_in v)) → is_true (binary (Compare Eq Binary) v (Int n)) ≡ numbers n v
deposit_is v n (inl is) = subst (λ w. is_true (binary (Compare Eq Binary) w (Int n)) ≡ numbers n w) (sym is) (equals_null (Int n))
deposit_is v n (inr is) = subst (λ w. is_true (binary (Compare Eq Binary) w (Int n)) ≡ numbers n w) (sym is) (same_int (id_in v) n)

-- IS NOT
isnt_back : (b : Bool) → is_true (from_truth (not3 (truth (from_truth (Some b))))) ≡ not b
isnt_back true = refl
isnt_back false = refl

isnt : (v w : Value) → is_true (unary Not (binary (Is Binary) v w)) ≡ not (is_eq (value_cmp v w))
unfolding unary binary
isnt v w = isnt_back (is_eq (value_cmp v w))

deposit_isnt : (v : Value) (n : ℤ) → (v ≡ Null) ⊎ (v ≡ Int (id_in v)) → is_true (unary Not (binary (Is Binary) v (Int n))) ≡ not (numbers n v)
deposit_isnt v n (inl is) = subst (λ w. is_true (unary Not (binary (Is Binary) w (Int n))) ≡ not (numbers n w)) (sym is)
    (isnt Null (Int n) ∙ (let apart : value_cmp Null (Int n) ≡ Less = value_cmp-apart Null (Int n) (λ e. cc) in rw apart refl))
deposit_isnt v n (inr is) = subst (λ w. is_true (unary Not (binary (Is Binary) w (Int n))) ≡ not (numbers n w)) (sym is)
    (isnt (Int (id_in v)) (Int n) ∙ ap (λ o. not (is_eq o)) (value_cmp-Int (id_in v) n))

-- whether the column has the text
abbrev pub reads : List ℕ → Value → Bool
reads c v = unwrap_or (option_map (λ x. bytes_eq x c) (maybe_bytes v)) false

pub text_is : (v : Value) (c : List ℕ) → (v ≡ Null) ⊎ (v ≡ Text (bytes v)) → is_true (binary (Compare Eq Binary) v (Text c)) ≡ reads c v
text_is v c (inl is) = subst (λ w. is_true (binary (Compare Eq Binary) w (Text c)) ≡ reads c w) (sym is) (equals_null (Text c))
text_is v c (inr is) = subst (λ w. is_true (binary (Compare Eq Binary) w (Text c)) ≡ reads c w) (sym is) (same_text (bytes v) c)

text_isnt : (v : Value) (c : List ℕ) → (v ≡ Null) ⊎ (v ≡ Text (bytes v)) → is_true (unary Not (binary (Is Binary) v (Text c))) ≡ not (reads c v)
text_isnt v c (inl is) = subst (λ w. is_true (unary Not (binary (Is Binary) w (Text c))) ≡ not (reads c w)) (sym is)
    (isnt Null (Text c) ∙ (let apart : value_cmp Null (Text c) ≡ Less = value_cmp-apart Null (Text c) (λ e. cc) in rw apart refl))
text_isnt v c (inr is) = subst (λ w. is_true (unary Not (binary (Is Binary) w (Text c))) ≡ not (reads c w)) (sym is)
    (isnt (Text (bytes v)) (Text c) ∙ ap (λ o. not (is_eq o)) (value_cmp-Text (bytes v) c) ∙ ap not (is_eq-slice_cmp (bytes v) c))

last_first : (a b : Bool) → (a && (b && true)) ≡ (b && a)
last_first true true = refl
last_first true false = refl
last_first false true = refl
last_first false false = refl

last_of_three : (a b c : Bool) → (a && (b && (c && true))) ≡ (c && (a && b))
last_of_three true b c = last_first b c
last_of_three false b true = refl
last_of_three false b false = refl

last_of_four : (a b c d : Bool) → (a && (b && (c && (d && true)))) ≡ (d && (a && (b && c)))
last_of_four true b c d = last_of_three b c d
last_of_four false b c true = refl
last_of_four false b c false = refl

passes_on : (n : ℤ) (r : Row) → IsStoredHold r → passes (Int n ∷ []) on r ≡ is_live_on n (hold_in r)
passes_on n r it = ap₂ (λ a b. a && (b && true)) (deposit_is (column r 2) n it.0) (null_is (column r 7) it.5) ∙ last_first _ _

passes_within : (n : ℤ) (c : List ℕ) (r : Row) → IsStoredHold r → passes (Int n ∷ Text c ∷ []) within r ≡ is_live_within n c (hold_in r)
passes_within n c r it =
    ap₂ (λ a b. a && b) (text_is (column r 3) c it.1) (ap₂ (λ a b. a && (b && true)) (deposit_isnt (column r 2) n it.0) (null_is (column r 7) it.5))
    ∙ last_of_three (holds_collection c (hold_in r)) (not (holds_deposit n (hold_in r))) (is_live (hold_in r))

passes_of_class : (n : ℤ) (c k : List ℕ) (r : Row) → IsStoredHold r → passes (Int n ∷ Text c ∷ Text k ∷ []) of_class r ≡ is_live_of_class n c k (hold_in r)
passes_of_class n c k r it =
    ap₂ (λ a b. a && b) (text_is (column r 4) k it.2)
    (ap₂ (λ a b. a && b) (deposit_isnt (column r 2) n it.0) (ap₂ (λ a b. a && (b && true)) (text_isnt (column r 3) c it.1) (null_is (column r 7) it.5)))
    ∙ last_of_four (holds_class k (hold_in r)) (not (holds_deposit n (hold_in r))) (not (holds_collection c (hold_in r))) (is_live (hold_in r))

-- the numbers of the holds that pass, in the order of their table
module _ (old new : State) (text : List ℕ) (test : List Term) (asks : Asks office_schema text hold_tree test (only 0) rising) (params : Row) (rows : List Row) (office : IsOffice old.now) (h : Shown text params old new rows) where
  lists_those : (p : HoldRow → Bool) → ((r : Row) → IsStoredHold r → passes params test r ≡ p (hold_in r))
      → (new.now ≡ old.now) × (map (λ (h : HoldRow). h.number) (filter p (tables_of old.now).holds) ≡ map (λ row. int_at row 0) rows)
  lists_those p tests =
      let db = old.now.trees in
      let typed = hold_rows old.now office in
      let keep : Row → Bool = λ r. p (hold_in r) in
      let up = ascending_weaker _ _ (λ a b lower. rw lower refl) (db hold_tree) (shaped_holds old.now office).0 in
      let each = all_from (λ r. passes params test r ≡ keep r) (db hold_tree) (λ r there. tests r (all_has IsStoredHold (db hold_tree) r typed there)) in
      let is = reads_rising office_schema text hold_tree test (only 0) rising asks params old new office.whole.schema_is rows h keep each up in
      let shows : map (λ row. int_at row 0) (map (shown_of params (only 0)) (filter keep (db hold_tree))) ≡ map (λ r. int_at r 0) (filter keep (db hold_tree)) = map-map (λ row. int_at row 0) (shown_of params (only 0)) (filter keep (db hold_tree)) in
      let typed_is : map (λ (h : HoldRow). h.number) (filter p (tables_of old.now).holds) ≡ map (λ r. int_at r 0) (filter keep (db hold_tree)) =
      ap (map (λ (h : HoldRow). h.number)) (filter-map p hold_in (db hold_tree)) ∙ map-map (λ (h : HoldRow). h.number) hold_in (filter keep (db hold_tree)) in (
        reads_same office_schema text hold_tree test (only 0) rising asks params old new office.whole.schema_is rows h,
        typed_is ∙ sym shows ∙ ap (map (λ row. int_at row 0)) (sym is),
      )

pub lists_on : (old new : State) (n : ℤ) (rows : List Row) → IsOffice old.now → Shown on_text (Int n ∷ []) old new rows
    → (new.now ≡ old.now) × (map (λ (h : HoldRow). h.number) (filter (is_live_on n) (tables_of old.now).holds) ≡ map (λ row. int_at row 0) rows)
lists_on old new n rows office h = lists_those old new on_text on hold_meanings.asks_on (Int n ∷ []) rows office h (is_live_on n) (passes_on n)

pub lists_within : (old new : State) (n : ℤ) (c : List ℕ) (rows : List Row) → IsOffice old.now → Shown within_text (Int n ∷ Text c ∷ []) old new rows
    → (new.now ≡ old.now) × (map (λ (h : HoldRow). h.number) (filter (is_live_within n c) (tables_of old.now).holds) ≡ map (λ row. int_at row 0) rows)
lists_within old new n c rows office h = lists_those old new within_text within hold_meanings.asks_within (Int n ∷ Text c ∷ []) rows office h (is_live_within n c) (passes_within n c)

pub lists_of_class : (old new : State) (n : ℤ) (c k : List ℕ) (rows : List Row) → IsOffice old.now → Shown of_class_text (Int n ∷ Text c ∷ Text k ∷ []) old new rows
    → (new.now ≡ old.now) × (map (λ (h : HoldRow). h.number) (filter (is_live_of_class n c k) (tables_of old.now).holds) ≡ map (λ row. int_at row 0) rows)
lists_of_class old new n c k rows office h =
    lists_those old new of_class_text of_class hold_meanings.asks_of_class (Int n ∷ Text c ∷ Text k ∷ []) rows office h (is_live_of_class n c k) (passes_of_class n c k)

-- ---- all of them, sorted

module _ {X : Type 0} (p q s : X → Bool) (either : (x : X) → s x ≡ (p x || q x)) (apart : (x : X) → p x ≡ true → q x ≡ false) where
  joined : (xs : List X) → IsPermutation (filter p xs ++ filter q xs) (filter s xs)
  joined [] = IsPermutation-refl []
  joined (x ∷ xs) = elim (cases_Bool (p x)) [
    | inl is ↦
        let qx = apart x is in
        let sx : s x ≡ true = rw is at (either x) in
        rw (is, qx, sx) (IsPermutation-cons x _ _ (joined xs))
    | inr isnt ↦ elim (cases_Bool (q x)) [
      | inl too ↦
          let sx : s x ≡ true = rw (isnt, too) at (either x) in
          rw (isnt, too, sx) (IsPermutation-trans _ _ _ (IsPermutation-middle (filter p xs) x (filter q xs)) (IsPermutation-cons x _ _ (joined xs)))
      | inr none ↦
          let sx : s x ≡ false = rw (isnt, none) at (either x) in
          rw (isnt, none, sx) (joined xs)
    ]
  ]

over_either : (l d c : Bool) → (l && (d || c)) ≡ ((l && d) || (l && (c && not d)))
over_either true true c = refl
over_either true false true = refl
over_either true false false = refl
over_either false d c = refl

on_apart : (l d c : Bool) → (l && d) ≡ true → (l && (c && not d)) ≡ false
on_apart true true true h = refl
on_apart true true false h = refl
on_apart true false c h = absurd cc
on_apart false d c h = absurd cc

over_last : (l d c k : Bool) → (l && (d || (c || k))) ≡ ((l && (d || c)) || (l && (k && (not d && not c))))
over_last true true c k = refl
over_last true false true k = refl
over_last true false false true = refl
over_last true false false false = refl
over_last false d c k = refl

last_apart : (l d c k : Bool) → (l && (d || c)) ≡ true → (l && (k && (not d && not c))) ≡ false
last_apart true true c true h = refl
last_apart true true c false h = refl
last_apart true false true true h = refl
last_apart true false true false h = refl
last_apart true false false k h = absurd cc
last_apart false d c k h = absurd cc

-- the live holds on the deposit, those on the collection and those on the class are those over a deposit of these
gathered : (n : ℤ) (c k : List ℕ) (holds : List HoldRow)
    → IsPermutation ((filter (is_live_on n) holds ++ filter (is_live_within n c) holds) ++ filter (is_live_of_class n c k) holds) (filter (is_live_over n c k) holds)
gathered n c k holds =
    let first : HoldRow → Bool = λ h. is_live h && (holds_deposit n h || holds_collection c h) in
    let two = joined (is_live_on n) (is_live_within n c) first
    (λ h. over_either (is_live h) (holds_deposit n h) (holds_collection c h)) (λ h. on_apart (is_live h) (holds_deposit n h) (holds_collection c h)) holds in
    let all = joined first (is_live_of_class n c k) (is_live_over n c k)
    (λ h. over_last (is_live h) (holds_deposit n h) (holds_collection c h) (holds_class k h)) (λ h. last_apart (is_live h) (holds_deposit n h) (holds_collection c h) (holds_class k h)) holds in
    IsPermutation-trans _ _ _ (IsPermutation-append_left (filter (is_live_of_class n c k) holds) _ _ two) all

numbers_rise : (rows : List Row) → AllByRecursion (λ r. IsTrue (is_int (rowid r))) rows → IsAscending (λ a b. value_cmp (rowid a) (rowid b) ≡ Less) rows → IsAscending (λ a b. int_cmp (int_at a 0) (int_at b 0) ≡ Less) rows
numbers_rise [] whole up = tt
numbers_rise (r ∷ rows) whole up = (
  all_from _ rows (λ s there. sym (value_cmp-Int (int_at r 0) (int_at s 0))
      ∙ subst₂ (λ v w. value_cmp v w ≡ Less) (int_is (rowid r) whole.0) (int_is (rowid s) (all_has _ rows s whole.1 there)) (all_has _ rows s up.0 there)),
  numbers_rise rows whole.1 up.1,
)

pub live_rise : (db : Database) → IsOffice db → (n : ℤ) (c k : List ℕ) → IsAscending (λ a b. int_cmp a b ≡ Less) (live_holds n c k (tables_of db))
live_rise db office n c k =
    let shaped = shaped_holds db office in
    let rows = numbers_rise (db.trees hold_tree) shaped.1 shaped.0 in
    let typed : IsAscending (λ (a b : HoldRow). int_cmp a.number b.number ≡ Less) (map hold_in (db.trees hold_tree)) = ascending-map (λ (a b : HoldRow). int_cmp a.number b.number ≡ Less) hold_in (db.trees hold_tree) rows in
    ascending-map (λ a b. int_cmp a b ≡ Less) (λ (h : HoldRow). h.number) _ (ascending-filter (λ (a b : HoldRow). int_cmp a.number b.number ≡ Less) (is_live_over n c k) (map hold_in (db.trees hold_tree)) typed)

pos_cmp : (a b : ℕ) → nat_cmp a b ≡ int_cmp (pos a) (pos b)
pos_cmp a b = grind (arith, ints)

abbrev numbers_of : (HoldRow → Bool) → Database → List ℤ
numbers_of those db = map (λ (h : HoldRow). h.number) (filter those (tables_of db).holds)

-- the numbers of all of these, once sorted, are those of the live holds
sorts_live : (db : Database) → IsOffice db → (n : ℤ) (c k : List ℕ) (all sorted : List ℕ)
    → map pos all ≡ (numbers_of (is_live_on n) db ++ numbers_of (is_live_within n c) db) ++ numbers_of (is_live_of_class n c k) db
    → IsPermutation all sorted → IsSorted nat_cmp sorted → map pos sorted ≡ live_holds n c k (tables_of db)
sorts_live db office n c k all sorted are same up =
    let holds = (tables_of db).holds in
    let number : HoldRow → ℤ = λ h. h.number in
    let each =
    map-append number (filter (is_live_on n) holds ++ filter (is_live_within n c) holds) (filter (is_live_of_class n c k) holds)
    ∙ ap (λ xs. xs ++ numbers_of (is_live_of_class n c k) db) (map-append number (filter (is_live_on n) holds) (filter (is_live_within n c) holds)) in
    let moved : IsPermutation (map pos all) (live_holds n c k (tables_of db)) = subst (λ xs. IsPermutation xs (live_holds n c k (tables_of db))) (each ∙ sym are) (IsPermutation-map number _ _ (gathered n c k holds)) in
    sorted_unique int_cmp int_cmp_total (live_holds n c k (tables_of db)) (map pos sorted) (live_rise db office n c k)
    (IsPermutation-trans _ _ _ (IsPermutation-sym _ _ moved) (IsPermutation-map pos all sorted same)) (IsSorted-map int_cmp pos sorted (λ k d low high. subst (λ o. is_lt o ≡ false) (pos_cmp (slice_index_or sorted (k + 1) d) (slice_index_or sorted k d)) (up k d low high)))

-- the numbers that rows show
abbrev told : List Row → List ℤ
told = map (λ row. int_at row 0)

-- what was gathered of the three answers, of which the same database gave the later ones
pub gathers_live : (old one two : Database) → IsOffice old → one ≡ old → two ≡ one → (n : ℤ) (c k : List ℕ) (on inside classed : List Row) (none first more all sorted : List ℕ)
    → numbers_of (is_live_on n) old ≡ told on → numbers_of (is_live_within n c) one ≡ told inside → numbers_of (is_live_of_class n c k) two ≡ told classed
    → none ≡ [] → map pos first ≡ map pos none ++ told on → map pos more ≡ map pos first ++ told inside → map pos all ≡ map pos more ++ told classed
    → IsPermutation all sorted → IsSorted nat_cmp sorted → map pos sorted ≡ live_holds n c k (tables_of old)
gathers_live old one two office same again n c k on inside classed none first more all sorted on_is inside_is classed_is empty first_is more_is all_is =
    sorts_live old office n c k all sorted (all_is ∙ ap₂ (λ xs ys. xs ++ ys)
    (more_is ∙ ap₂ (λ xs ys. xs ++ ys) (first_is ∙ ap (λ xs. map pos xs ++ told on) empty ∙ sym on_is) (sym inside_is ∙ ap (numbers_of (is_live_within n c)) same))
    (sym classed_is ∙ ap (numbers_of (is_live_of_class n c k)) (again ∙ same)))

-- where none of the live holds over a deposit is there, no row shows one on the deposit, on the collection or on the class
module _ (n : ℤ) (c k : List ℕ) (db : Database) (none : live_holds n c k (tables_of db) ≡ []) where
  none_over : (holds : List HoldRow) → map (λ (h : HoldRow). h.number) (filter (is_live_over n c k) holds) ≡ [] → (those : HoldRow → Bool) → ((h : HoldRow) → those h ≡ true → is_live_over n c k h ≡ true) → filter those holds ≡ []
  none_over [] empty those over = refl
  none_over (h ∷ holds) empty those over = elim (cases_Bool (is_live_over n c k h)) [
    | inl is ↦ absurd (let is_one = rw is at empty in cc)
    | inr isnt ↦ elim (cases_Bool (those h)) [
      | inl one ↦ absurd (let both = sym (over h one) ∙ isnt in cc)
      | inr other ↦ rw other (none_over holds (rw isnt at empty) those over)
    ]
  ]

  shows_none : (those : HoldRow → Bool) → ((h : HoldRow) → those h ≡ true → is_live_over n c k h ≡ true) → (rows : List Row) → numbers_of those db ≡ told rows → rows ≡ []
  shows_none those over [] are = refl
  shows_none those over (row ∷ rows) are = absurd (let empty = none_over (tables_of db).holds none those over in let told_none = sym (ap (map (λ (h : HoldRow). h.number)) empty) ∙ are in cc)

  live_on : (l d m : Bool) → (l && d) ≡ true → (l && (d || m)) ≡ true
  live_on true true m is = refl
  live_on true false m is = absurd cc
  live_on false d m is = absurd cc

  live_within : (l d m x : Bool) → (l && (m && not d)) ≡ true → (l && (d || (m || x))) ≡ true
  live_within true true m x is = refl
  live_within true false true x is = refl
  live_within true false false x is = absurd cc
  live_within false d m x is = absurd cc

  live_of : (l d m x : Bool) → (l && (x && (not d && not m))) ≡ true → (l && (d || (m || x))) ≡ true
  live_of true true m x is = refl
  live_of true false true x is = refl
  live_of true false false true is = refl
  live_of true false false false is = absurd cc
  live_of false d m x is = absurd cc

  pub none_on : (rows : List Row) → numbers_of (is_live_on n) db ≡ told rows → rows ≡ []
  none_on = shows_none (is_live_on n) (λ h. live_on (is_live h) (holds_deposit n h) (holds_collection c h || holds_class k h))

  pub none_within : (rows : List Row) → numbers_of (is_live_within n c) db ≡ told rows → rows ≡ []
  none_within = shows_none (is_live_within n c) (λ h. live_within (is_live h) (holds_deposit n h) (holds_collection c h) (holds_class k h))

  pub none_of_class : (rows : List Row) → numbers_of (is_live_of_class n c k) db ≡ told rows → rows ≡ []
  none_of_class = shows_none (is_live_of_class n c k) (λ h. live_of (is_live h) (holds_deposit n h) (holds_collection c h) (holds_class k h))
