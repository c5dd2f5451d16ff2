-- What the statements on deposits do to the rows of an office.
use Rattle.office_tables.proofs.FirstLemmas.{if◌then◌else◌, IsTrue, Bool, false, ap₂, ◌≡◌, ◌⊎◌, ℕ, ℤ, List, [], ◌∷◌, map, filter, slice_get, option_map, true, Some, Ok, refl, ap, ◌∙◌, AllByRecursion, Null, Int, Text, Row, column, edit_of, edited, Given, cast, cast_row, rowid, Database, State, Shown, Executes, is_int, Has, ids_of, all_has, all_from, int_is, Datatype, NotNull, Unique, int_at, bytes_at, shown_of, finds_one, has_text, few_named, by_number, has_number, each_numbered, few_numbered, typed_at, all_both, decoded, cast_null, cast_int, obeys_rule, revises, office_schema, deposit_place, deposit_table, deposit_tree, DepositRow, is_deposit, deposit_numbered, has_accession, deposit_by, last_number, with_gone, IsOffice, Becomes, tables_of, deposit_in, due_in, shown_deposit, of_deposits, idle, becomes, reads_last, keeps_int, deposit_with, deposit_text, accession_text, deposits_text, last_text, deposit_columns, gone_text, deposit_meanings, col, reads_named, reads_numbered, lists_all, Value, inr, keeps_text}
use Rattle.sqlite.specs.Kind.TheVariants as kind

-- a stored deposit, as the rules of its table leave it
pub record IsDepositRow (r : Row) : Type 0 where
  pub accession : column r 2 ≡ Text (bytes_at r 2)
  pub collection : column r 3 ≡ Text (bytes_at r 3)
  pub class : column r 4 ≡ Text (bytes_at r 4)
  pub closed : column r 5 ≡ Int (int_at r 5)
  pub deposited : column r 6 ≡ Int (int_at r 6)
  pub files : column r 7 ≡ Int (int_at r 7)
  pub bytes : column r 8 ≡ Int (int_at r 8)
  pub gone : (column r 9 ≡ Null) ⊎ (column r 9 ≡ Int (int_at r 9))
  pub due : (column r 10 ≡ Null) ⊎ (column r 10 ≡ Int (int_at r 10))
  pub holds : column r 11 ≡ Int (int_at r 11)

pub deposit_rows : (db : Database) → IsOffice db → AllByRecursion IsDepositRow (db.trees deposit_tree)
deposit_rows db office = all_both (λ r t p.
    let at = typed_at office_schema db.trees deposit_table r t p in
    record { accession = at 1 refl; collection = at 2 refl; class = at 3 refl; closed = at 4 refl; deposited = at 5 refl; files = at 6 refl; bytes = at 7 refl; gone = at 8 refl; due = at 9 refl; holds = at 10 refl }) (db.trees deposit_tree) (of_deposits (obeys_rule office.whole Datatype)) (of_deposits (obeys_rule office.whole NotNull))

-- a stored deposit with other last columns, and its columns keep what stands in them
abbrev pub with_last : Value → Value → Value → Row → Row
with_last gone due holds r = rowid r ∷ Null ∷ column r 2 ∷ column r 3 ∷ column r 4 ∷ column r 5 ∷ column r 6 ∷ column r 7 ∷ column r 8 ∷ gone ∷ due ∷ holds ∷ []

pub cast_last : (gone due holds : Value) (r : Row) → IsDepositRow r → IsTrue (is_int (rowid r)) → cast kind.Integer gone ≡ gone → cast kind.Integer due ≡ due → cast kind.Integer holds ≡ holds
    → cast_row deposit_table (with_last gone due holds r) ≡ with_last gone due holds r
cast_last gone due holds r it whole is_gone is_due is_holds =
    rw (keeps_int (rowid r) (inr (int_is (rowid r) whole)), cast_null, keeps_text (column r 2) (inr it.accession), keeps_text (column r 3) (inr it.collection), keeps_text (column r 4) (inr it.class), keeps_int (column r 5) (inr it.closed), keeps_int (column r 6) (inr it.deposited), keeps_int (column r 7) (inr it.files), keeps_int (column r 8) (inr it.bytes), is_gone, is_due, is_holds) refl

-- ---- one deposit

pub finds_deposit : (old new : State) (n : ℤ) (rows : List Row) → IsOffice old.now → Shown deposit_text (Int n ∷ []) old new rows
    → (new.now ≡ old.now) × (deposit_numbered n (tables_of old.now).deposits ≡ option_map shown_deposit (slice_get rows 0))
finds_deposit old new n rows office h =
    let read = reads_numbered old new rows office deposit_meanings.asks_deposit n (of_deposits office.whole.shaped) h in
    (read.0, finds_one (old.now.trees deposit_tree) rows (has_number n) (shown_of (Int n ∷ []) deposit_columns) deposit_in shown_deposit (is_deposit n) (λ r. refl) (λ r. refl) read.1)

-- at most one deposit has the accession
pub accessions : (db : Database) → IsOffice db → AllByRecursion (λ r. column r 2 ≡ Text (bytes_at r 2)) (db.trees deposit_tree)
accessions db office = all_from _ (db.trees deposit_tree) (λ r there. (all_has IsDepositRow (db.trees deposit_tree) r (deposit_rows db office) there).accession)

pub few_accessions : (db : Database) → IsOffice db → (accession : List ℕ)
    → (filter (has_text 2 accession) (db.trees deposit_tree) ≡ []) ⊎ ((r : Row) × Has (db.trees deposit_tree) r × (has_text 2 accession r ≡ true) × (filter (has_text 2 accession) (db.trees deposit_tree) ≡ r ∷ []))
few_accessions db office accession = few_named 2 (db.trees deposit_tree) (of_deposits office.whole.shaped) (accessions db office) (of_deposits (obeys_rule office.whole Unique)) accession

pub finds_accession : (old new : State) (accession : List ℕ) (rows : List Row) → IsOffice old.now → Shown accession_text (Text accession ∷ []) old new rows
    → (new.now ≡ old.now) × (deposit_by accession (tables_of old.now).deposits ≡ option_map shown_deposit (slice_get rows 0))
finds_accession old new accession rows office h =
    let read = reads_named old new rows office 2 deposit_meanings.asks_accession accession (accessions old.now office) (few_accessions old.now office accession) h in
    (read.0, finds_one (old.now.trees deposit_tree) rows (has_text 2 accession) (shown_of (Text accession ∷ []) deposit_columns) deposit_in shown_deposit (has_accession accession) (λ r. refl) (λ r. refl) read.1)

-- ---- every deposit, in the order of the numbers

pub lists_deposits : (old new : State) (rows : List Row) → IsOffice old.now → Shown deposits_text [] old new rows
    → (new.now ≡ old.now) × ((tables_of old.now).deposits ≡ map shown_deposit rows)
lists_deposits old new rows office h =
    lists_all old new rows office deposit_meanings.asks_deposits (of_deposits office.whole.shaped) deposit_in shown_deposit (λ r. refl) h

-- ---- the last number

pub finds_last : (old new : State) (rows : List Row) → IsOffice old.now → Shown last_text [] old new rows
    → (new.now ≡ old.now) × (last_number (λ d. d.number) (tables_of old.now).deposits ≡ option_map (λ row. int_at row 0) (slice_get rows 0))
finds_last old new rows office h =
    reads_last deposit_tree deposit_in (λ (d : DepositRow). d.number) (λ r. refl) office_schema last_text deposit_meanings.asks_last old new office.whole.schema_is (of_deposits office.whole.shaped).0 rows h

-- ---- the day when it was destroyed

-- what an edit of other columns leaves of the typed rows
pub kept_alike : {Y : Type 0} (decode : Row → Y) (keep : Row → Bool) (set : Row → Row) → ((r : Row) → decode (set r) ≡ decode r) → (rows : List Row)
    → map decode (map (λ r. if keep r then set r else r) rows) ≡ map decode rows
kept_alike decode keep set same [] = refl
kept_alike decode keep set same (r ∷ rows) = ap₂ (λ y ys. y ∷ ys) (one (keep r)) (kept_alike decode keep set same rows)
  where
    one : (b : Bool) → decode (if b then set r else r) ≡ decode r
    one true = same r
    one false = refl

abbrev set_gone : ℤ → Row → Row
set_gone day r = with_last (Int day) (column r 10) (column r 11) r

pub marks_gone : (old new : State) (n day : ℤ) (count : ℕ) → IsOffice old.now → Executes gone_text (Int n ∷ Int day ∷ []) old new (Ok count)
    → Becomes new.now (with_gone n day (tables_of old.now))
marks_gone old new n day count office h =
    let db = old.now.trees in
    let shaped = of_deposits office.whole.shaped in
    let done = revises gone_text (Int n ∷ Int day ∷ []) old new office_schema office.whole.schema_is deposit_place deposit_table refl idle shaped by_number (deposit_with 9 (col 0 1))
    (has_number n) (each_numbered n (Int day ∷ []) (db deposit_tree) shaped) deposit_meanings.gone_means (set_gone day) (few_numbered n (db deposit_tree) shaped)
    (λ r there.
    let it = all_has IsDepositRow (db deposit_tree) r (deposit_rows old.now office) there in
    (refl, cast_last (Int day) (column r 10) (column r 11) r it (all_has _ (db deposit_tree) r shaped.1 there) (cast_int day) (keeps_int (column r 10) it.due) (keeps_int (column r 11) (inr it.holds)), refl)) count h in
    let edit = edit_of db deposit_table (ids_of done.answer) Given 1 done.answer in
    let gone_is = decoded deposit_in (has_number n) (set_gone day) (is_deposit n) (λ d. record d { gone = Some day }) (λ r. refl) (λ r. refl) (db deposit_tree) in
    let dues_are : map due_in (edited db edit) ≡ map due_in (db deposit_tree) = ap (map due_in) done.made ∙ kept_alike due_in (has_number n) (set_gone day) (λ r. refl) (db deposit_tree) in
    becomes old new edit count edit.news office refl done.change _ (ap₂ (λ rows dues. record (tables_of old.now) { deposits = rows; dues = dues }) (ap (map deposit_in) done.made ∙ gone_is) dues_are)
