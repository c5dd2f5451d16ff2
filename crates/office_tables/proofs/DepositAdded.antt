-- What a deposit that was put tells of the rows before it: its number and its accession are new, and its collection and its class are there.
use Rattle.office_tables.proofs.FirstLemmas.{◌≡◌, ℕ, ℤ, [], ◌∷◌, filter, slice_get, option_map, Bool, true, Option, Some, None, Ok, IsTrue, map, refl, sym, ap, ap₂, subst, ◌∙◌, AllByRecursion, list_any, and_parts, Null, Int, Text, Row, with_rowid, Chosen, or_null, bound_value, cast_row, State, Executes, Enforced, agree, Unique, ForeignKey, plain, joined, same_name, Has, all_has, all_from, found_by, bytes_itself, int_itself, Changes, inserts, put, was_put, none_before, IsText, has_text, one_named, any_parent, has_number, one_numbered, any_mapped, cast_null, cast_int, obeys_rule, office_schema, deposit_place, deposit_table, class_tree, collection_tree, deposit_tree, DepositRow, DueRow, put_by, new_due_row, with_deposit_and_due, is_deposit, deposit_numbered, has_accession, deposit_by, is_class, has_class, is_collection, has_collection, IsOffice, Becomes, tables_of, deposit_in, due_in, class_in, collection_in, IsAdded, of_deposits, idle, becomes, adding, placed, cast_maybe, maybe_back, put_text, put_terms, put_width, deposit_meanings}
use Rattle.office_tables.proofs.ClassLemmas.{IsClassRow, class_rows}
use Rattle.office_tables.proofs.CollectionLemmas.{collection_rows}
use Rattle.office_tables.proofs.DepositLemmas.{accessions}

abbrev pub params_of : DepositRow → Option ℤ → ℤ → Row
params_of d due holds = Int d.number ∷ Text d.accession ∷ Text d.collection ∷ Text d.class ∷ Int d.closed ∷ Int d.deposited ∷ Int d.files ∷ Int d.bytes ∷ or_null Int due ∷ Int holds ∷ []

-- what is bound of a day that may be missing
pub bound_due : (due : Option ℤ) → bound_value (or_null Int due) ≡ or_null Int due
bound_due None = refl
bound_due (Some day) = refl

abbrev stored_of : DepositRow → Option ℤ → ℤ → Row
stored_of d due holds = Null ∷ Text d.accession ∷ Text d.collection ∷ Text d.class ∷ Int d.closed ∷ Int d.deposited ∷ Int d.files ∷ Int d.bytes ∷ Null ∷ or_null Int due ∷ Int holds ∷ []

abbrev row_of : DepositRow → Option ℤ → ℤ → Row
row_of d due holds = Int d.number ∷ stored_of d due holds

module _ (old new : State) (d : DepositRow) (due : Option ℤ) (holds : ℤ) (kept : d.gone ≡ None) (count : ℕ) (office : IsOffice old.now) (h : Executes put_text (params_of d due holds) old new (Ok count)) where
  abbrev row : Row
  row = row_of d due holds

  change : Changes office_schema old new (adding deposit_table row old) count (adding deposit_table row old).news
  change = inserts put_text (params_of d due holds) old new office_schema office.whole.schema_is deposit_place deposit_table refl idle put_terms put_width deposit_meanings.put_means refl refl count h

  cast_is : cast_row deposit_table row ≡ row
  cast_is = rw (cast_null, cast_int d.number, cast_int d.closed, cast_int d.deposited, cast_int d.files, cast_int d.bytes, cast_maybe due, cast_int holds) refl

  after : Becomes new.now (with_deposit_and_due d due holds (tables_of old.now))
  after =
      let number : DepositRow → ℤ = λ e. e.number in
      let is_d : deposit_in row ≡ d = ap (λ g. record d { gone = g }) (sym kept) in
      let at_its_place = placed deposit_in number (λ r. refl) old new deposit_table row (stored_of d due holds) d.number count (adding deposit_table row old).news (of_deposits office.whole.shaped) cast_is change in
      let due_at_its_place = placed due_in (λ (e : DueRow). e.number) (λ r. refl) old new deposit_table row (stored_of d due holds) d.number count (adding deposit_table row old).news (of_deposits office.whole.shaped) cast_is change in
      let is_due : due_in row ≡ new_due_row d.number due holds = ap (λ day. new_due_row d.number day holds) (maybe_back due []) in
      becomes old new (adding deposit_table row old) count (adding deposit_table row old).news office refl change _ (ap₂ (λ rows dues. record (tables_of old.now) { deposits = rows; dues = dues })
      (at_its_place ∙ ap (λ x. put_by number x (map deposit_in (old.now.trees deposit_tree))) is_d)
      (due_at_its_place ∙ ap (λ x. put_by (λ (e : DueRow). e.number) x (map due_in (old.now.trees deposit_tree))) is_due))

  row_is : put office_schema Enforced old.now.trees new.now.trees deposit_table row change.applies ≡ row
  row_is = ap (with_rowid Chosen (old.now.trees deposit_tree)) cast_is

  -- no deposit passes a test that two deposits of an office can't both pass, and the new one does
  none_passes : (keep : Row → Bool) → keep row ≡ true → ((x y : Row) → Has (new.now.trees deposit_tree) x → Has (new.now.trees deposit_tree) y → keep x ≡ true → keep y ≡ true → x ≡ y) → filter keep (old.now.trees deposit_tree) ≡ []
  none_passes keep is alike = none_before office_schema Enforced old.now.trees new.now.trees deposit_table row change.applies keep (ap keep row_is ∙ is) alike

  number_was_new : deposit_numbered d.number (tables_of old.now).deposits ≡ None
  number_was_new =
      let none = none_passes (has_number d.number) (int_itself d.number) (one_numbered (new.now.trees deposit_tree) (of_deposits after.office.whole.shaped) d.number) in
      found_by (is_deposit d.number) (has_number d.number) deposit_in (old.now.trees deposit_tree) (all_from _ (old.now.trees deposit_tree) (λ r there. refl)) ∙ ap (λ rs. option_map deposit_in (slice_get rs 0)) none

  accession_was_new : deposit_by d.accession (tables_of old.now).deposits ≡ None
  accession_was_new =
      let alike = one_named 2 (new.now.trees deposit_tree) (of_deposits after.office.whole.shaped) (accessions new.now after.office) (of_deposits (obeys_rule after.office.whole Unique)) d.accession in
      let none = none_passes (has_text 2 d.accession) (bytes_itself d.accession) alike in
      found_by (has_accession d.accession) (has_text 2 d.accession) deposit_in (old.now.trees deposit_tree) (all_from _ (old.now.trees deposit_tree) (λ r there. refl)) ∙ ap (λ rs. option_map deposit_in (slice_get rs 0)) none

  -- the parents of the new row are there
  was_there : Has (new.now.trees deposit_tree) row
  was_there = subst (λ r. Has (new.now.trees deposit_tree) r) row_is (was_put office_schema Enforced old.now.trees new.now.trees deposit_table row change.applies)

  held : (list_any (λ parent. agree plain (1 ∷ []) parent (3 ∷ []) row) (new.now.trees collection_tree) ≡ true) × (list_any (λ parent. agree plain (1 ∷ []) parent (4 ∷ []) row) (new.now.trees class_tree) ≡ true)
  unfolding joined same_name
  held =
      let each = all_has _ (new.now.trees deposit_tree) row (of_deposits (obeys_rule after.office.whole ForeignKey)) was_there in
      let two = and_parts _ _ each in
      (two.0, (and_parts _ _ two.1).0)

  collection_was_there : IsTrue (has_collection d.collection (tables_of old.now))
  collection_was_there =
      let named = any_parent 1 3 d.collection row (new.now.trees collection_tree) (collection_rows new.now after.office) refl in
      sym (ap (λ t. has_collection d.collection t) after.are) ∙ any_mapped collection_in (has_text 1 d.collection) (is_collection d.collection) (λ r. refl) (new.now.trees collection_tree) ∙ sym named ∙ held.0

  class_was_there : IsTrue (has_class d.class (tables_of old.now))
  class_was_there =
      let names : AllByRecursion (IsText 1) (new.now.trees class_tree) = all_from _ (new.now.trees class_tree) (λ r there. (all_has IsClassRow (new.now.trees class_tree) r (class_rows new.now after.office) there).0) in
      let named = any_parent 1 4 d.class row (new.now.trees class_tree) names refl in
      sym (ap (λ t. has_class d.class t) after.are) ∙ any_mapped class_in (has_text 1 d.class) (is_class d.class) (λ r. refl) (new.now.trees class_tree) ∙ sym named ∙ held.1

  pub is_added : IsAdded d due holds old.now new.now
  is_added = record {
    becomes = after;
    new_number = number_was_new;
    new_accession = accession_was_new;
    its_collection = collection_was_there;
    its_class = class_was_there;
  }
