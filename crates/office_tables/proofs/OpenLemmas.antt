-- What opening finds in the database of an office of each version is what its rows say.
use Rattle.office_tables.proofs.FirstLemmas.{◌≡◌, ◌&&◌, ap₂, ℤ, pos, negsuc, ◌==◌, arith, List, [], ◌∷◌, codes, map, drop, find, filter, slice_get, option_map, Bool, true, false, Option, Some, None, Equal, Ok, IsTrue, refl, sym, ap, subst, subst₂, ◌∙◌, inl, inr, ints, cases_Bool, and_parts, nat_tests, AllByRecursion, int_cmp, int_eq, is_eq, Int, Row, column, Term, col, Binary, Key, id_in, rowid, Select, understood, reads_listing, IsSourceOf, Database, Reads, command_of, everything, is_int, Datatype, NotNull, same_name, Schema, Has, all_has, all_from, has_kept, int_is, int_at, found_by, lone, none_pass, one_numbered, Asks, scan, as_program, passes, shown_of, Scans, scanned, answer_sound, answer_complete, typed_at, all_both, obeys_rule, Table, Index, IsWhole, office_table, office_tree, OfficeRow, is_known, version_of, schema_at, tables_at, TableVersion, Third, office_in, of_office, has_office, look_text, Looks, ShowsVersion, shows_office, is_one, is_limit_told}
use Rattle.office_tables.specs.Opening.{is_int as is_whole}
use Rattle.office_tables.proofs.Looking.{all_passed_over, known_there}

-- a stored row of the office, as the rules of its table leave it
abbrev IsOfficeRow : Row → Type 0
IsOfficeRow r = (column r 2 ≡ Int (int_at r 2)) × (column r 3 ≡ Int (int_at r 3)) × (column r 4 ≡ Int (int_at r 4))

-- the schema of any version: the table `office` stands first
abbrev with_office : List Table → List Index → Schema
with_office more indexes = record { tables = office_table ∷ more; indexes = indexes; views = [] }

office_rows : (more : List Table) (indexes : List Index) (db : Database) → IsWhole (with_office more indexes) db → AllByRecursion IsOfficeRow (db.trees office_tree)
office_rows more indexes db office = all_both (λ r t p.
    let at = typed_at (with_office more indexes) db.trees office_table r t p in
    (at 1 refl, at 2 refl, at 3 refl)) (db.trees office_tree) (of_office (obeys_rule office Datatype)) (of_office (obeys_rule office NotNull))

-- the schema of each version has the table
at_once : (version : TableVersion) → has_office (schema_at version) ≡ true
unfolding same_name
at_once Third = refl
at_once _ = refl

pub is_there : (version : TableVersion) (schema : Schema) → schema ≡ schema_at version → has_office schema ≡ true
is_there version schema is = ap has_office is ∙ at_once version

-- ---- the query on the row of the office

abbrev look_columns : List Term
look_columns = col 1 0 ∷ col 1 2 ∷ col 1 3 ∷ col 1 4 ∷ []

abbrev by_version : List (Term × Key)
by_version = (col 1 2, record { collation = Binary; descending = false }) ∷ []

asks_look : (version : TableVersion) → Asks (schema_at version) look_text office_tree [] look_columns by_version
unfolding understood everything
asks_look Third = record { names = codes "id" ∷ codes "version" ∷ codes "max_deposits" ∷ codes "max_holds" ∷ []; command = refl; unlisted = refl; plain = (refl, refl) }
asks_look _ = record { names = codes "id" ∷ codes "version" ∷ codes "max_deposits" ∷ codes "max_holds" ∷ []; command = refl; unlisted = refl; plain = (refl, refl) }

look_scans : (schema : Schema) → Asks schema look_text office_tree [] look_columns by_version → (db : Database) → db.schema ≡ schema → (rows : List Row) → Looks db rows → Scans db.trees [] office_tree [] look_columns by_version rows
look_scans schema asks db has rows look =
    let known : understood schema look_text ≡ Ok look.0 = ap (λ s. understood s look_text) (sym has) ∙ look.2 in
    let source : look.1 ≡ db = subst (λ b. IsSourceOf b db look.1) (ap (λ s. reads_listing s look_text) has ∙ asks.unlisted) look.3 in
    let answer : Reads (Select (as_program (scan office_tree [] look_columns by_version)) asks.names) db [] rows = subst₂ (λ k d. Reads k d [] rows) (sym (ap command_of known) ∙ asks.command) source look.4 in
    scanned db.trees [] office_tree [] look_columns by_version rows answer.answer

-- ---- what is tested of a row is what is tested of the typed one

one_is : (n : ℤ) → is_one (Int n) ≡ int_eq n (pos 1)
one_is (pos n) = elim (cases_Bool (n == 1)) [
  | inl is ↦
      let tie : int_cmp (pos n) (pos 1) ≡ Equal = grind (arith, ints, nat_tests) in
      rw (is, tie) refl
  | inr isnt ↦ elim (cases_Bool (is_eq (int_cmp (pos n) (pos 1)))) [
    | inl tie ↦ absurd (grind (arith, ints, nat_tests))
    | inr apart ↦ rw (isnt, apart) refl
  ]
]
one_is (negsuc n) = refl

shows_is : (r : Row) → IsOfficeRow r → IsTrue (is_int (rowid r)) → shows_office (shown_of [] look_columns r) ≡ is_known (office_in r)
shows_is r it whole =
    ap₂ ◌&&◌ (ap is_one (int_is (rowid r) whole) ∙ one_is (int_at r 0)) (ap₂ ◌&&◌ (ap is_whole it.0) (ap₂ ◌&&◌ (ap is_limit_told it.1) (ap is_limit_told it.2)))

module _ (more : List Table) (indexes : List Index) (asks : Asks (with_office more indexes) look_text office_tree [] look_columns by_version) (db : Database) (office : IsWhole (with_office more indexes) db) where
  abbrev known : Row → Bool
  known r = is_known (office_in r)

  told : (r : Row) → Has (db.trees office_tree) r → shows_office (shown_of [] look_columns r) ≡ known r
  told r there = shows_is r (all_has IsOfficeRow (db.trees office_tree) r (office_rows more indexes db office) there) (all_has _ (db.trees office_tree) r (of_office office.shaped).1 there)

  found : find is_known (map office_in (db.trees office_tree)) ≡ option_map office_in (slice_get (filter known (db.trees office_tree)) 0)
  found = found_by is_known known office_in (db.trees office_tree) (all_from _ (db.trees office_tree) (λ r there. refl))

  every : AllByRecursion (λ r. passes [] [] r ≡ true) (db.trees office_tree)
  every = all_from _ (db.trees office_tree) (λ r there. refl)

  alike : (x y : Row) → Has (db.trees office_tree) x → Has (db.trees office_tree) y → known x ≡ true → known y ≡ true → x ≡ y
  alike x y hx hy kx ky = one_numbered (db.trees office_tree) (of_office office.shaped) (pos 1) x y hx hy (and_parts _ _ kx).0 (and_parts _ _ ky).0

  shows_first : (told_version : Option ℤ) → ShowsVersion db told_version → option_map (λ (o : OfficeRow). o.version) (find is_known (map office_in (db.trees office_tree))) ≡ told_version
  shows_first None shown =
      let scans = look_scans (with_office more indexes) asks db office.schema_is shown.0 shown.1 in
      let each = all_passed_over shown.0 shown.2 in
      let none : filter known (db.trees office_tree) ≡ [] = none_pass known (db.trees office_tree) (λ r there.
      sym (told r there) ∙ all_has (λ row. shows_office row ≡ false) shown.0 (shown_of [] look_columns r) each (answer_complete db.trees [] office_tree [] look_columns by_version shown.0 (λ r. true) scans every r there refl)) in
      ap (option_map (λ (o : OfficeRow). o.version)) (found ∙ ap (λ rs. option_map office_in (slice_get rs 0)) none)
  shows_first (Some version) shown =
      let scans = look_scans (with_office more indexes) asks db office.schema_is shown.0 shown.2 in
      let first = known_there shown.0 shown.1 shown.3 in
      let it = answer_sound db.trees [] office_tree [] look_columns by_version shown.0 (λ r. true) scans every shown.1 first.0 in
      let is : known it.0 ≡ true = sym (told it.0 it.1) ∙ ap shows_office (sym it.3) ∙ first.1 in
      let typed = all_has IsOfficeRow (db.trees office_tree) it.0 (office_rows more indexes db office) it.1 in
      let one : filter known (db.trees office_tree) ≡ it.0 ∷ [] = elim (lone known (db.trees office_tree) (db.trees office_tree) (of_office office.shaped).0 (λ r there. there) alike) [
        | inl none ↦ absurd (let within = subst (λ rs. Has rs it.0) none (has_kept known (db.trees office_tree) it.0 it.1 is) in within)
        | inr single ↦ single.3 ∙ ap (λ r. r ∷ []) (alike single.0 it.0 single.1 it.1 single.2 is)
      ] in
      let told_is : Int (int_at it.0 2) ≡ Int version = sym typed.0 ∙ ap (λ row. column row 1) (sym it.3) ∙ shown.4 in
      ap (option_map (λ (o : OfficeRow). o.version)) (found ∙ ap (λ rs. option_map office_in (slice_get rs 0)) one) ∙ ap (λ v. Some (id_in v)) told_is

-- the version that was seen is the one that the rows tell
pub tells_version : (version : TableVersion) (db : Database) → IsWhole (schema_at version) db → (seen : Option ℤ) → ShowsVersion db seen → version_of (tables_at version db) ≡ seen
tells_version Third db whole seen shown = shows_first (drop 1 (schema_at Third).tables) (schema_at Third).indexes (asks_look Third) db whole seen shown
tells_version version db whole seen shown = shows_first (drop 1 (schema_at version).tables) (schema_at version).indexes (asks_look version) db whole seen shown
