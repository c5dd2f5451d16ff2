-- The rows of classes and the due days of their deposits, and the history that they picture.
use Rattle.office_refines.proofs.FirstLemmas.{◌≡◌, ℕ, Bool, true, false, List, [], ◌∷◌, Option, Some, None, option_map, is_some, refl, sym, ap, ◌∙◌, if◌then◌else◌, ◌||◌, ◌++◌, map, true≢false, append-nil, bytes_eq, option_or, AllByRecursion, filter_map, cons_option, list_any, bytes_eq-Decides, filter_map-append, Date, ClassRow, class_named, Tables, is_class, with_class, with_new_class, this_version, first_said, in_first_places, History, years_of, DefinedClass, with_changes, deposits, class_rows, years_back, class_in, class_row, years_number, picture, row_years, years_read, rows_by, HasYears, all_have_years, all_distinct, among_first_places, years_grown, same_collection_rows, same_deposit_rows, same_file_rows, same_hold_rows, pictured_by, bytes_eq-sym, first_places_last, by_Bool, by_Option}
use Rattle.office_rows.specs.Rows.{has_class, with_years}
use Rattle.office_refines.proofs.DuesRevised.{days_from, days_revised, set_all}

-- ---- the years of a class

said_by_rows : (name : List ℕ) (rows : List ClassRow) → option_map (λ (c : ClassRow). years_back c.years) (class_named name rows) ≡ first_said (row_years name) rows
said_by_rows name [] = refl
said_by_rows name (r ∷ rows) = by_Bool (bytes_eq r.name name) (λ same. rw same refl) (λ other. rw other (said_by_rows name rows))

pub years_of_row : (h : History) (name : List ℕ) → option_map (λ (c : ClassRow). years_back c.years) (class_named name (class_rows h)) ≡ years_of h name
years_of_row h name = said_by_rows name (class_rows h) ∙ years_read h name

-- ---- the years of one class change

module _ (name : List ℕ) (y : Option ℕ) (years : List ℕ → Option (Option ℕ)) where
  abbrev revised : List ℕ → Option (Option ℕ)
  revised other = option_or (if bytes_eq name other then Some y else None) (years other)

  abbrev revise : ClassRow → ClassRow
  revise c = if is_class name c then record c { years = years_number y } else c

  there : (names : List (List ℕ)) → AllByRecursion (λ other. is_some (years other) ≡ true) names → map revise (rows_by years names) ≡ rows_by revised names
  there [] have = refl
  there (other ∷ names) have =
      by_Option (years other) (λ none. absurd (let has = rw none at have.0 in cc))
      (λ z is. by_Bool (bytes_eq other name)
      (λ same. rw (is, bytes_eq-sym name other, same) (ap (λ rs. class_row other y ∷ rs) (there names have.1)))
      (λ apart. rw (is, bytes_eq-sym name other, apart) (ap (λ rs. class_row other z ∷ rs) (there names have.1))))

  elsewhere : (names : List (List ℕ)) → list_any (bytes_eq name) names ≡ false → rows_by revised names ≡ rows_by years names
  elsewhere [] none = refl
  elsewhere (other ∷ names) none =
      by_Bool (bytes_eq name other) (λ same. absurd (let there = rw same at none in true≢false there))
      (λ apart. rw apart (ap (cons_option (option_map (class_row other) (years other))) (elsewhere names (rw apart at none))))

  -- a row stands for each name
  named : (names : List (List ℕ)) → AllByRecursion (λ other. is_some (years other) ≡ true) names → list_any (is_class name) (rows_by years names) ≡ list_any (bytes_eq name) names
  named [] have = refl
  named (other ∷ names) have =
      by_Option (years other) (λ none. absurd (let has = rw none at have.0 in cc)) (λ z is. rw is (λ i. bytes_eq-sym other name i || named names have.1 i))

-- ---- a class that is defined or revised

abbrev names_of : History → List (List ℕ)
names_of h = in_first_places (filter_map class_in h.changes)

have_years : (h : History) → AllByRecursion (HasYears h.changes) (names_of h)
have_years h = all_distinct (HasYears h.changes) [] (filter_map class_in h.changes) (all_have_years h.changes)

module _ (h : History) (day : Date) (name : List ℕ) (y : Option ℕ) where
  abbrev longer : History
  longer = with_changes h (DefinedClass day name y ∷ [])

  longer_names : names_of longer ≡ names_of h ++ (if list_any (bytes_eq name) (names_of h) then [] else name ∷ [])
  longer_names =
      ap in_first_places (filter_map-append class_in h.changes (DefinedClass day name y ∷ []))
      ∙ first_places_last (filter_map class_in h.changes) name
      ∙ ap (λ b. names_of h ++ (if b then [] else name ∷ [])) (sym (among_first_places name (filter_map class_in h.changes)))

  longer_rows : class_rows longer ≡ rows_by (revised name y (years_of h)) (names_of h ++ (if list_any (bytes_eq name) (names_of h) then [] else name ∷ []))
  longer_rows = λ i. filter_map (λ n. option_map (class_row n) (years_grown h (DefinedClass day name y ∷ []) n i)) (longer_names i)

  classes_at : (b : Bool) → list_any (bytes_eq name) (names_of h) ≡ b
      → (if b then map (revise name y (years_of h)) (class_rows h) else class_rows h ++ record { name = name; years = years_number y } ∷ []) ≡ rows_by (revised name y (years_of h)) (names_of h ++ (if b then [] else name ∷ []))
  classes_at true e = there name y (years_of h) (names_of h) (have_years h) ∙ ap (rows_by (revised name y (years_of h))) (sym (append-nil (names_of h)))
  classes_at false e =
      let last : rows_by (revised name y (years_of h)) (name ∷ []) ≡ record { name = name; years = years_number y } ∷ [] =
      ap (λ b. cons_option (option_map (class_row name) (option_or (if b then Some y else None) (years_of h name))) []) ((bytes_eq-Decides name name).1 refl) in
      (λ i. sym (elsewhere name y (years_of h) (names_of h) e) i ++ sym last i)
      ∙ sym (filter_map-append (λ n. option_map (class_row n) (revised name y (years_of h) n)) (names_of h) (name ∷ []))

  abbrev with_classes : List ClassRow → Tables
  with_classes classes = record (picture this_version h) { classes = classes }

  classes_told : (if has_class name (picture this_version h) then map (revise name y (years_of h)) (class_rows h) else class_rows h ++ record { name = name; years = years_number y } ∷ []) ≡ class_rows longer
  classes_told =
      ap (λ b. if b then map (revise name y (years_of h)) (class_rows h) else class_rows h ++ record { name = name; years = years_number y } ∷ []) (named name y (years_of h) (names_of h) (have_years h))
      ∙ classes_at (list_any (bytes_eq name) (names_of h)) refl
      ∙ sym longer_rows

  -- the tables with that class
  with_class_is : with_class name (years_number y) (picture this_version h) ≡ with_classes (class_rows longer)
  with_class_is = by (has_class name (picture this_version h)) ∙ ap with_classes classes_told
    where
      by : (b : Bool) → (if b then with_years name (years_number y) (picture this_version h) else with_new_class name (years_number y) (picture this_version h))
          ≡ with_classes (if b then map (revise name y (years_of h)) (class_rows h) else class_rows h ++ record { name = name; years = years_number y } ∷ [])
      by true = refl
      by false = refl

  -- the class has its years, and its deposits their due days
  pub class_told : (let t = with_class name (years_number y) (picture this_version h) in record t { dues = set_all (days_from name y 1 (deposits h)) t.dues }) ≡ picture this_version longer
  class_told =
      ap (λ (t : Tables). record t { dues = set_all (days_from name y 1 (deposits h)) t.dues }) with_class_is
      ∙ pictured_by h (DefinedClass day name y ∷ []) refl refl (sym (same_collection_rows h (DefinedClass day name y ∷ []) refl))
      (sym (same_deposit_rows h (DefinedClass day name y ∷ []) refl (λ n. refl))) (days_revised h day name y)
      (sym (same_file_rows h (DefinedClass day name y ∷ []) refl (λ n. refl))) (sym (same_hold_rows h (DefinedClass day name y ∷ []) refl (λ k. refl)))
