-- What one edit makes of the list of a table's rows.
use Rattle.sql_meaning.proofs.Common.{◌≡◌, ◌&&◌, ◌||◌, ◌⊎◌, not, ℤ, pos, ◌+ℤ◌, List, [], ◌∷◌, ◌++◌, map, filter, fold, drop, Bool, true, false, cond, Ordering, Equal, Less, Greater, IsTrue, subst₂, ap₂, length, refl, sym, ap, subst, ◌∙◌, inl, inr, if◌then◌else◌, arith, append_assoc, append-nil, ◌<ℤ◌, is_eq, ordering_reverse, int_cmp, AllByRecursion, list_all, list_any, cases_Bool, and_parts, tied_itself, Value, Null, Int, Row, value_cmp, unary, is_null, cast, cast_row, Table, value_cmp-Int, value_cmp_total, Trees, rowid, IsTable, has_rowid, put_row, without_rowid, Edit, edit_of, edited, id_in, next_rowid, numbered, put_all, without_all, with_rowid, have_rowids, Chosen, Given, Has, ids_of, tied_same, all_has, all_from, has_kept, some_has, some_from, int_is, is_int, IsShaped, all-append, all_map, filter_same, filter_all}
use Rattle.std.proofs.lemmas.Int.{ints}
use Rattle.std.proofs.lemmas.List.{length-map}
use Rattle.sqlite.specs.Kind.TheVariants.{Integer}
use Rattle.sqlite_rules.proofs.RowLemmas.{length-numbered}
use Rattle.sqlite_trees.specs.declared.store.Shape.TheVariants as shape
use Rattle.sqlite_trees.proofs.TreeLemmas.{IsShaped-filter, IsShaped-put_row}
use Rattle.sql_meaning.proofs.Typed.{all_both}

pub map_same : {X : Type 0} (f : X → X) (xs : List X) → ((x : X) → Has xs x → f x ≡ x) → map f xs ≡ xs
map_same f [] all = refl
map_same f (x ∷ xs) all = rw (all x (inl refl)) (ap (λ more. x ∷ more) (map_same f xs (λ y there. all y (inr there))))

pub map_alike : {X Y : Type 0} (f g : X → Y) (xs : List X) → ((x : X) → Has xs x → f x ≡ g x) → map f xs ≡ map g xs
map_alike f g [] all = refl
map_alike f g (x ∷ xs) all = rw (all x (inl refl)) (ap (λ more. g x ∷ more) (map_alike f g xs (λ y there. all y (inr there))))

-- ---- a row at the end

pub put_last : (new : Row) (rows : List Row) → AllByRecursion (λ r. value_cmp (rowid r) (rowid new) ≡ Less) rows → put_row new rows ≡ rows ++ new ∷ []
put_last new [] low = refl
put_last new (r ∷ rows) low = rw low.0 (ap (λ more. r ∷ more) (put_last new rows low.1))

abbrev step_rowid : ℤ → Row → ℤ
step_rowid n r = id_in (rowid r) +ℤ pos 1

int_less : (m n : ℤ) → m <ℤ n → value_cmp (Int m) (Int n) ≡ Less
int_less m n h = value_cmp-Int m n ∙ grind (arith, ints)

less_int : (m n : ℤ) → value_cmp (Int m) (Int n) ≡ Less → m <ℤ n
less_int m n h = let e : int_cmp m n ≡ Less = sym (value_cmp-Int m n) ∙ h in grind (arith, ints)

below_next : (x : Row) (rows : List Row) → IsTable (x ∷ rows) → AllByRecursion (λ r. IsTrue (is_int (rowid r))) (x ∷ rows)
    → AllByRecursion (λ r. id_in (rowid r) <ℤ fold step_rowid (step_rowid (pos 1) x) rows) (x ∷ rows)
below_next x [] up keyed = (omega (arith, ints), tt)
below_next x (y ∷ rows) up keyed =
    let later = below_next y rows up.1 keyed.1 in
    let lower = less_int (id_in (rowid x)) (id_in (rowid y)) (subst₂ (λ a b. value_cmp a b ≡ Less) (int_is (rowid x) keyed.0) (int_is (rowid y) keyed.1.0) up.0.0) in
    let first = later.0 in
    (omega (arith, ints), later)

pub all_below_next : (rows : List Row) → IsShaped shape.Table rows → AllByRecursion (λ r. value_cmp (rowid r) (Int (next_rowid rows)) ≡ Less) rows
all_below_next [] shaped = tt
all_below_next (x ∷ rows) shaped =
    let below = below_next x rows shaped.0 shaped.1 in
    all_from _ (x ∷ rows) (λ r there. subst (λ v. value_cmp v (Int (next_rowid (x ∷ rows))) ≡ Less) (sym (int_is (rowid r) (all_has _ (x ∷ rows) r shaped.1 there))) (int_less _ _ (all_has _ (x ∷ rows) r below there)))

-- ---- a row in the place of another

above : (o p : Ordering) → o ≡ ordering_reverse p → p ≡ Less → o ≡ Greater
above o p h k = h ∙ ap ordering_reverse k

-- what is equal compares so
pub equal_is : (o : Ordering) → is_eq o ≡ true → o ≡ Equal
equal_is Less h = absurd cc
equal_is Equal h = refl
equal_is Greater h = absurd cc

put_first : (new : Row) (rows : List Row) → ((y : Row) → Has rows y → value_cmp (rowid y) (rowid new) ≡ Greater) → put_row new rows ≡ new ∷ rows
put_first new [] high = refl
put_first new (y ∷ rows) high = rw (high y (inl refl)) refl

pub replaced : (id : ℤ) (new : Row) (rows : List Row) → rowid new ≡ Int id → IsTable rows → (r : Row) → Has rows r → has_rowid id r ≡ true
    → put_row new (without_rowid id rows) ≡ map (λ x. if has_rowid id x then new else x) rows
replaced id new [] is up r there tied = absurd there
replaced id new (x ∷ rows) is up r there tied = elim (cases_Bool (has_rowid id x)) [
  | inl same ↦
      let tie : value_cmp (rowid x) (Int id) ≡ Equal = equal_is _ same in
      let greater : (y : Row) → Has rows y → value_cmp (rowid y) (Int id) ≡ Greater = λ y within.
      let later : value_cmp (Int id) (rowid y) ≡ Less = sym (value_cmp_total.congr (rowid x) (Int id) (rowid y) tie) ∙ all_has _ rows y up.0 within in
      value_cmp_total.antisymm (rowid y) (Int id) ∙ ap ordering_reverse later in
      let other : (y : Row) → Has rows y → has_rowid id y ≡ false = λ y within. ap is_eq (greater y within) in
      let filtered : without_rowid id rows ≡ rows = filter_all (λ y. not (has_rowid id y)) rows (λ y within. ap not (other y within)) in
      let front : put_row new rows ≡ new ∷ rows = put_first new rows (λ y within. subst (λ v. value_cmp (rowid y) v ≡ Greater) (sym is) (greater y within)) in
      let stays : map (λ y. if has_rowid id y then new else y) rows ≡ rows = map_same (λ y. if has_rowid id y then new else y) rows (λ y within. ap (λ b. if b then new else y) (other y within)) in
      rw same (ap (put_row new) filtered ∙ front ∙ ap (λ more. new ∷ more) (sym stays))
  | inr apart ↦ elim there [
    | inl is_x ↦ absurd (let yes = subst (λ y. has_rowid id y ≡ true) is_x tied in cc)
    | inr within ↦
        let tie : value_cmp (rowid r) (Int id) ≡ Equal = equal_is _ tied in
        let back : value_cmp (rowid r) (rowid x) ≡ Greater = value_cmp_total.antisymm (rowid r) (rowid x) ∙ ap ordering_reverse (all_has _ rows r up.0 within) in
        let down : value_cmp (Int id) (rowid x) ≡ Greater = sym (value_cmp_total.congr (rowid r) (Int id) (rowid x) tie) ∙ back in
        let less : value_cmp (rowid x) (Int id) ≡ Less = value_cmp_total.antisymm (rowid x) (Int id) ∙ ap ordering_reverse down in
        let low : value_cmp (rowid x) (rowid new) ≡ Less = subst (λ v. value_cmp (rowid x) v ≡ Less) (sym is) less in
        rw apart (rw low (ap (λ more. x ∷ more) (replaced id new rows is up.1 r within tied)))
  ]
]

-- ---- UPDATE of the row that a key names

numbered_id : (r : Row) → IsTrue (is_int (rowid r)) → has_rowid (id_in (rowid r)) r ≡ true
numbered_id r whole = ap is_eq (subst (λ v. value_cmp (rowid r) v ≡ Equal) (int_is (rowid r) whole) (tied_itself value_cmp_total (rowid r)))

-- The query shows of each row that is kept its rowid and then its new columns, and at most one row is kept.
pub updated : (db : Trees) (table : Table) (answer : List Row) (keep : Row → Bool) (shown set : Row → Row) → IsShaped shape.Table (db table.tree)
    → (filter keep (db table.tree) ≡ []) ⊎ ((r : Row) × Has (db table.tree) r × (keep r ≡ true) × (filter keep (db table.tree) ≡ r ∷ []))
    → answer ≡ map shown (filter keep (db table.tree))
    → ((r : Row) → Has (db table.tree) r → (rowid (shown r) ≡ rowid r) × (cast_row table (drop 1 (shown r)) ≡ set r) × (rowid (set r) ≡ rowid r))
    → edited db (edit_of db table (ids_of answer) Given 1 answer) ≡ map (λ r. if keep r then set r else r) (db table.tree)
updated db table answer keep shown set shaped (inl none) is sets =
    let nothing : answer ≡ [] = is ∙ ap (map shown) none in
    subst (λ rows. edited db (edit_of db table (ids_of rows) Given 1 rows) ≡ map (λ r. if keep r then set r else r) (db table.tree)) (sym nothing)
    (sym (map_same (λ r. if keep r then set r else r) (db table.tree) (λ r there. ap (λ b. if b then set r else r) (fails r there))))
  where
    fails : (r : Row) → Has (db table.tree) r → keep r ≡ false
    fails r there = elim (cases_Bool (keep r)) [ inl kept ↦ absurd (let within = subst (λ rs. Has rs r) none (has_kept keep (db table.tree) r there kept) in within) | inr isnt ↦ isnt ]
updated db table answer keep shown set shaped (inr one) is sets =
    let r = one.0 in
    let single : answer ≡ shown r ∷ [] = is ∙ ap (map shown) one.3 in
    let whole = all_has _ (db table.tree) r shaped.1 one.1 in
    let id = id_in (rowid r) in
    let made = sets r one.1 in
    let is_id : rowid (set r) ≡ Int id = made.2 ∙ int_is (rowid r) whole in
    let gone : id_in (rowid (shown r)) ≡ id = ap id_in made.0 in
    let by_id : edited db (edit_of db table (id_in (rowid (shown r)) ∷ []) Given 1 (shown r ∷ [])) ≡ put_row (set r) (without_rowid id (db table.tree)) =
    ap (λ n. put_row (cast_row table (drop 1 (shown r))) (without_rowid n (db table.tree))) gone ∙ ap (λ row. put_row row (without_rowid id (db table.tree))) made.1 in
    let placed = replaced id (set r) (db table.tree) is_id shaped.0 r one.1 (numbered_id r whole) in
    subst (λ rows. edited db (edit_of db table (ids_of rows) Given 1 rows) ≡ map (λ x. if keep x then set x else x) (db table.tree)) (sym single)
    (by_id ∙ placed ∙ map_alike (λ x. if has_rowid id x then set r else x) (λ x. if keep x then set x else x) (db table.tree) alike)
  where
    tied_is : (x : Row) → Has (db table.tree) x → has_rowid (id_in (rowid one.0)) x ≡ true → x ≡ one.0
    tied_is x there tied = tied_same (db table.tree) x one.0 shaped.0 there one.1 (subst (λ v. value_cmp (rowid x) v ≡ Equal) (sym (int_is (rowid one.0) (all_has _ (db table.tree) one.0 shaped.1 one.1))) (equal_is _ tied))

    kept_is : (x : Row) → Has (db table.tree) x → keep x ≡ true → x ≡ one.0
    kept_is x there kept = elim (subst (λ rs. Has rs x) one.3 (has_kept keep (db table.tree) x there kept)) [ inl same ↦ same | inr none ↦ absurd none ]

    alike : (x : Row) → Has (db table.tree) x → (if has_rowid (id_in (rowid one.0)) x then set one.0 else x) ≡ (if keep x then set x else x)
    alike x there = elim (cases_Bool (has_rowid (id_in (rowid one.0)) x)) [
      | inl tied ↦
          let same : x ≡ one.0 = tied_is x there tied in
          let kept : keep x ≡ true = subst (λ y. keep y ≡ true) (sym same) one.2 in
          rw (tied, kept) (ap set (sym same))
      | inr apart ↦ elim (cases_Bool (keep x)) [
        | inl kept ↦ absurd (
            let same : x ≡ one.0 = kept_is x there kept in
            let yes : has_rowid (id_in (rowid one.0)) x ≡ true = subst (λ y. has_rowid (id_in (rowid one.0)) y ≡ true) (sym same) (numbered_id one.0 (all_has _ (db table.tree) one.0 shaped.1 one.1)) in cc)
        | inr isnt ↦ rw (apart, isnt) refl
      ]
    ]

-- ---- INSERT of one row

either : (b : Bool) (x : Value) → cond b x x ≡ x
either true x = refl
either false x = refl

pub cast_null : cast Integer Null ≡ Null
unfolding unary
cast_null = either _ Null

pub cast_int : (n : ℤ) → cast Integer (Int n) ≡ Int n
unfolding unary
cast_int n = either _ (Int n)

-- with no rowid given, it comes at the end
pub appended : (db : Trees) (table : Table) (source columns : Row) → IsShaped shape.Table (db table.tree) → cast_row table source ≡ Null ∷ columns
    → edited db (edit_of db table [] Chosen 0 (source ∷ [])) ≡ db table.tree ++ (Int (next_rowid (db table.tree)) ∷ columns) ∷ []
appended db table source columns shaped is =
    ap (λ row. put_row (with_rowid Chosen (db table.tree) row) (db table.tree)) is ∙ put_last (Int (next_rowid (db table.tree)) ∷ columns) (db table.tree) (all_below_next (db table.tree) shaped)

-- with a rowid it comes at its place
pub inserted : (db : Trees) (table : Table) (source columns : Row) (n : ℤ) → cast_row table source ≡ Int n ∷ columns
    → edited db (edit_of db table [] Chosen 0 (source ∷ [])) ≡ put_row (Int n ∷ columns) (db table.tree)
inserted db table source columns n is = ap (λ row. put_row (with_rowid Chosen (db table.tree) row) (db table.tree)) is

-- ---- the rows stay in the order of their rowids

without_shaped : (rows : List Row) (ids : List ℤ) → IsShaped shape.Table rows → IsShaped shape.Table (without_all rows ids)
without_shaped rows [] h = h
without_shaped rows (id ∷ ids) h = without_shaped (without_rowid id rows) ids (IsShaped-filter shape.Table (λ r. not (has_rowid id r)) rows h)

put_shaped : (rows news : List Row) → list_all (λ r. is_int (rowid r)) news ≡ true → IsShaped shape.Table rows → IsShaped shape.Table (put_all rows news)
put_shaped rows [] keyed h = h
put_shaped rows (n ∷ news) keyed h = put_shaped (put_row n rows) news (and_parts _ _ keyed).1 (IsShaped-put_row n rows (and_parts _ _ keyed).0 h)

pub edited_shaped : (db : Trees) (edit : Edit) → have_rowids edit.news ≡ true → IsShaped shape.Table (db edit.table.tree) → IsShaped shape.Table (edited db edit)
edited_shaped db edit keyed h = put_shaped (without_all (db edit.table.tree) edit.gone) edit.news keyed (without_shaped (db edit.table.tree) edit.gone h)

-- ---- rows that keep their rowids stay in their order

below_set : (f : Row → Row) (x : Row) (rows : List Row) → rowid (f x) ≡ rowid x → ((r : Row) → Has rows r → rowid (f r) ≡ rowid r)
    → AllByRecursion (λ r. value_cmp (rowid x) (rowid r) ≡ Less) rows → AllByRecursion (λ r. value_cmp (rowid (f x)) (rowid r) ≡ Less) (map f rows)
below_set f x [] same each up = tt
below_set f x (r ∷ rows) same each up =
    (subst₂ (λ a b. value_cmp a b ≡ Less) (sym same) (sym (each r (inl refl))) up.0, below_set f x rows same (λ y there. each y (inr there)) up.1)

pub set_table : (f : Row → Row) (rows : List Row) → ((r : Row) → Has rows r → rowid (f r) ≡ rowid r) → IsTable rows → IsTable (map f rows)
set_table f [] each up = tt
set_table f (r ∷ rows) each up = (below_set f r rows (each r (inl refl)) (λ y there. each y (inr there)) up.0, set_table f rows (λ y there. each y (inr there)) up.1)

pub set_shaped : (f : Row → Row) (rows : List Row) → ((r : Row) → Has rows r → rowid (f r) ≡ rowid r) → IsShaped shape.Table rows → IsShaped shape.Table (map f rows)
set_shaped f rows each shaped = (
  set_table f rows each shaped.0,
  all_map (λ r. IsTrue (is_int (rowid r))) f rows (all_from _ rows (λ r there. subst (λ v. IsTrue (is_int v)) (sym (each r there)) (all_has _ rows r shaped.1 there))),
)

-- ---- INSERT of rows that rise, into a table without rows

-- rows that have rowids keep them
numbered_given : (rows news : List Row) → AllByRecursion (λ r. IsTrue (is_int (rowid r))) news → numbered Chosen rows news ≡ news
numbered_given rows [] keyed = refl
numbered_given rows (n ∷ news) keyed =
    let given : is_null (rowid n) ≡ false = ap is_null (int_is (rowid n) keyed.0) in
    rw given (ap (λ more. n ∷ more) (numbered_given (put_row n rows) news keyed.1))

put_rising : (rows news : List Row) → AllByRecursion (λ n. AllByRecursion (λ r. value_cmp (rowid r) (rowid n) ≡ Less) rows) news → IsTable news → put_all rows news ≡ rows ++ news
put_rising rows [] low up = sym (append-nil rows)
put_rising rows (n ∷ news) low up =
    let more : AllByRecursion (λ m. AllByRecursion (λ r. value_cmp (rowid r) (rowid m) ≡ Less) (rows ++ n ∷ [])) news =
    all_both (λ m lower next. all-append (λ r. value_cmp (rowid r) (rowid m) ≡ Less) rows (n ∷ []) lower (next, tt)) news low.1 up.0 in
    ap (λ front. put_all front news) (put_last n rows low.0) ∙ put_rising (rows ++ n ∷ []) news more up.1 ∙ append_assoc rows (n ∷ []) news

-- they become its rows, as they are
pub filled : (db : Trees) (table : Table) (sources rows : List Row) → db table.tree ≡ [] → IsShaped shape.Table rows → map (λ s. cast_row table s) sources ≡ rows
    → edited db (edit_of db table [] Chosen 0 sources) ≡ rows
filled db table sources rows none shaped cast_is =
    ap (λ news. put_all (db table.tree) (numbered Chosen (db table.tree) news)) cast_is ∙ ap (λ olds. put_all olds (numbered Chosen olds rows)) none
    ∙ ap (put_all []) (numbered_given [] rows shaped.1) ∙ put_rising [] rows (all_from _ rows (λ r there. tt)) shaped.0

-- ---- the typed rows after an UPDATE, and its count

pub decoded : {Y : Type 0} (decode : Row → Y) (keep : Row → Bool) (set : Row → Row) (test : Y → Bool) (revise : Y → Y) → ((r : Row) → test (decode r) ≡ keep r) → ((r : Row) → decode (set r) ≡ revise (decode r))
    → (rows : List Row) → map decode (map (λ r. if keep r then set r else r) rows) ≡ map (λ y. if test y then revise y else y) (map decode rows)
decoded decode keep set test revise tests sets [] = refl
decoded decode keep set test revise tests sets (r ∷ rows) = rw (tests r) (ap₂ (λ y more. y ∷ more) (one (keep r)) (decoded decode keep set test revise tests sets rows))
  where
    one : (b : Bool) → decode (if b then set r else r) ≡ (if b then revise (decode r) else decode r)
    one true = sets r
    one false = refl

pub any_mapped : {Y : Type 0} (decode : Row → Y) (keep : Row → Bool) (test : Y → Bool) → ((r : Row) → test (decode r) ≡ keep r) → (rows : List Row) → list_any test (map decode rows) ≡ list_any keep rows
any_mapped decode keep test tests [] = refl
any_mapped decode keep test tests (r ∷ rows) = rw (tests r, any_mapped decode keep test tests rows) refl

pub counted : {Y : Type 0} (db : Trees) (table : Table) (answer : List Row) (keep : Row → Bool) (shown : Row → Row) (decode : Row → Y) (test : Y → Bool) → ((r : Row) → test (decode r) ≡ keep r)
    → (filter keep (db table.tree) ≡ []) ⊎ ((r : Row) × Has (db table.tree) r × (keep r ≡ true) × (filter keep (db table.tree) ≡ r ∷ []))
    → answer ≡ map shown (filter keep (db table.tree))
    → length (edit_of db table (ids_of answer) Given 1 answer).news ≡ (if list_any test (map decode (db table.tree)) then 1 else 0)
counted db table answer keep shown decode test tests few is =
    length-numbered Given (without_all (db table.tree) (ids_of answer)) (map (λ s. cast_row table (drop 1 s)) answer) ∙ length-map answer (λ s. cast_row table (drop 1 s))
    ∙ ap length is ∙ length-map (filter keep (db table.tree)) shown ∙ number few ∙ sym (ap (λ b. if b then 1 else 0) (any_mapped decode keep test tests (db table.tree)))
  where
    number : (filter keep (db table.tree) ≡ []) ⊎ ((r : Row) × Has (db table.tree) r × (keep r ≡ true) × (filter keep (db table.tree) ≡ r ∷ [])) → length (filter keep (db table.tree)) ≡ (if list_any keep (db table.tree) then 1 else 0)
    number (inl none) = elim (cases_Bool (list_any keep (db table.tree))) [
      | inl some ↦ absurd (let it = some_has keep (db table.tree) some in let within = subst (λ rs. Has rs it.0) none (has_kept keep (db table.tree) it.0 it.1 it.2) in within)
      | inr isnt ↦ rw (none, isnt) refl
    ]
    number (inr one) = rw (one.3, some_from keep (db table.tree) one.0 one.1 one.2) refl

-- ---- DELETE

filter_twice : (p q s : Row → Bool) → ((x : Row) → s x ≡ (q x && p x)) → (xs : List Row) → filter p (filter q xs) ≡ filter s xs
filter_twice p q s same [] = refl
filter_twice p q s same (x ∷ xs) = elim (cases_Bool (q x)) [
  | inl is ↦
      let sx : s x ≡ p x = same x ∙ ap (λ b. b && p x) is in
      rw (is, sx) (ap (λ more. cond (p x) (x ∷ more) more) (filter_twice p q s same xs))
  | inr isnt ↦
      let sx : s x ≡ false = same x ∙ ap (λ b. b && p x) isnt in
      rw (isnt, sx) (filter_twice p q s same xs)
]

none_or : (a b : Bool) → not (a || b) ≡ (not a && not b)
none_or true b = refl
none_or false b = refl

abbrev among : List ℤ → Row → Bool
among ids r = list_any (λ id. has_rowid id r) ids

without_among : (ids : List ℤ) (rows : List Row) → without_all rows ids ≡ filter (λ r. not (among ids r)) rows
without_among [] rows = sym (filter_all (λ r. not (among [] r)) rows (λ r there. refl))
without_among (i ∷ ids) rows =
    without_among ids (without_rowid i rows) ∙ filter_twice (λ r. not (among ids r)) (λ r. not (has_rowid i r)) (λ r. not (among (i ∷ ids) r)) (λ r. none_or (has_rowid i r) (among ids r)) rows

-- taking out the rowids of the rows that pass is keeping the others
pub without_kept : (keep : Row → Bool) (rows : List Row) (ids : List ℤ) → ((r : Row) → Has rows r → keep r ≡ true → (id : ℤ) × Has ids id × (has_rowid id r ≡ true))
    → ((r : Row) → Has rows r → keep r ≡ false → (id : ℤ) → Has ids id → has_rowid id r ≡ false) → without_all rows ids ≡ filter (λ r. not (keep r)) rows
without_kept keep rows ids gone stay = without_among ids rows ∙ filter_same (λ r. not (among ids r)) (λ r. not (keep r)) rows (all_from _ rows (λ r there. ap not (same r there)))
  where
    same : (r : Row) → Has rows r → among ids r ≡ keep r
    same r there = elim (cases_Bool (keep r)) [
      | inl is ↦ let it = gone r there is in some_from (λ id. has_rowid id r) ids it.0 it.1 it.2 ∙ sym is
      | inr isnt ↦ elim (cases_Bool (among ids r)) [
        | inl some ↦ absurd (let it = some_has (λ id. has_rowid id r) ids some in let no = stay r there isnt it.0 it.1 in let yes = it.2 in cc)
        | inr none ↦ none ∙ sym isnt
      ]
    ]

-- DELETE by a query that shows the rowids of the rows that pass, in any order
pub deleted : (db : Trees) (table : Table) (answer : List Row) (keep : Row → Bool) (shown : Row → Row) → IsShaped shape.Table (db table.tree) → ((r : Row) → rowid (shown r) ≡ rowid r)
    → ((x : Row) → Has answer x → (r : Row) × Has (db table.tree) r × (keep r ≡ true) × (x ≡ shown r)) → ((r : Row) → Has (db table.tree) r → keep r ≡ true → Has answer (shown r))
    → edited db (edit_of db table (ids_of answer) Given 0 []) ≡ filter (λ r. not (keep r)) (db table.tree)
deleted db table answer keep shown shaped same sound complete =
    without_kept keep (db table.tree) (ids_of answer)
    (λ r there kept. (id_in (rowid r), id_has answer (shown r) (id_in (rowid r)) (complete r there kept) (ap id_in (same r)), numbered_id r (all_has _ (db table.tree) r shaped.1 there)))
    (λ r there isnt id has. elim (cases_Bool (has_rowid id r)) [
      | inl tied ↦ absurd (
          let x = has_id answer id has in
          let it = sound x.0 x.1 in
          let whole = all_has _ (db table.tree) it.0 shaped.1 it.1 in
          let id_is : id ≡ id_in (rowid it.0) = x.2 ∙ ap (λ y. id_in (rowid y)) it.3 ∙ ap id_in (same it.0) in
          let tie : value_cmp (rowid r) (rowid it.0) ≡ Equal = subst (λ v. value_cmp (rowid r) v ≡ Equal) (ap Int id_is ∙ sym (int_is (rowid it.0) whole)) (equal_is _ tied) in
          let one : r ≡ it.0 = tied_same (db table.tree) r it.0 shaped.0 there it.1 tie in
          let kept : keep r ≡ true = ap keep one ∙ it.2 in cc)
      | inr apart ↦ apart
    ])
  where
    id_has : (rows : List Row) (x : Row) (id : ℤ) → Has rows x → id_in (rowid x) ≡ id → Has (ids_of rows) id
    id_has [] x id there is = absurd there
    id_has (y ∷ rows) x id (inl e) is = inl (sym is ∙ ap (λ z. id_in (rowid z)) e)
    id_has (y ∷ rows) x id (inr more) is = inr (id_has rows x id more is)

    has_id : (rows : List Row) (id : ℤ) → Has (ids_of rows) id → (x : Row) × Has rows x × (id ≡ id_in (rowid x))
    has_id [] id there = absurd there
    has_id (y ∷ rows) id (inl e) = (y, inl refl, e)
    has_id (y ∷ rows) id (inr more) = let it = has_id rows id more in (it.0, inr it.1, it.2)

-- what is revised where nothing passes stays as it is
pub none_revised : {Y : Type 0} (test : Y → Bool) (revise : Y → Y) (ys : List Y) → list_any test ys ≡ false → map (λ y. if test y then revise y else y) ys ≡ ys
none_revised test revise [] none = refl
none_revised test revise (y ∷ ys) none = elim (cases_Bool (test y)) [
  | inl is ↦ absurd (let some : list_any test (y ∷ ys) ≡ true = rw is refl in cc)
  | inr isnt ↦ let rest : list_any test ys ≡ false = rw isnt at none in rw isnt (ap (λ more. y ∷ more) (none_revised test revise ys rest))
]
