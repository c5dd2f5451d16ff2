-- The rows of collections, and the history that they picture.
use Rattle.office_refines.proofs.FirstLemmas.{◌≡◌, ℕ, ◌||◌, List, [], ◌∷◌, refl, ◌∙◌, false, ◌++◌, sym, ap, if◌then◌else◌, bytes_eq, list_any, filter_map-append, Date, this_version, with_collection, with_new_collection, History, collection_in, collections, has_collection, Change, DefinedCollection, with_changes, picture, collection_rows, among_first_places, in_first_places, grown_by_none, bytes_eq-sym, same_classes, same_deposit_rows, same_due_rows, same_file_rows, same_hold_rows, pictured_by, first_places_last, by_Bool}
use Rattle.office_rows.specs.Rows as rows

-- whichever of the two is asked of the other
among_either : (name : List ℕ) (names : List (List ℕ)) → list_any (λ other. bytes_eq other name) names ≡ list_any (bytes_eq name) names
among_either name [] = refl
among_either name (other ∷ names) = λ i. bytes_eq-sym other name i || among_either name names i

-- there is a row of that name where there is such a collection
pub collection_there : (h : History) (name : List ℕ) → rows.has_collection name (picture this_version h) ≡ has_collection h name
collection_there h name = among_either name (collection_rows h) ∙ among_first_places name (collections h)

module _ (h : History) (day : Date) (name : List ℕ) where
  abbrev defined : List Change
  defined = DefinedCollection day name ∷ []

  rows_with : has_collection h name ≡ false → collection_rows (with_changes h defined) ≡ collection_rows h ++ name ∷ []
  rows_with none =
      ap in_first_places (filter_map-append collection_in h.changes defined)
      ∙ first_places_last (collections h) name
      ∙ ap (λ b. collection_rows h ++ (if b then [] else name ∷ [])) none

  new_told : has_collection h name ≡ false → with_new_collection name (picture this_version h) ≡ picture this_version (with_changes h defined)
  new_told none =
      pictured_by h defined refl (sym (same_classes h defined refl (λ n. refl))) (sym (rows_with none))
      (sym (same_deposit_rows h defined refl (λ n. refl))) (sym (same_due_rows h defined refl (λ n. refl) refl (λ k. refl))) (sym (same_file_rows h defined refl (λ n. refl))) (sym (same_hold_rows h defined refl (λ k. refl)))

  -- a collection that is there changes nothing
  pub collection_told : with_collection name (picture this_version h) ≡ picture this_version (with_changes h (if has_collection h name then [] else defined))
  collection_told =
      ap (λ b. if b then picture this_version h else with_new_collection name (picture this_version h)) (collection_there h name)
      ∙ by_Bool (has_collection h name) (λ there. rw there (ap (picture this_version) (grown_by_none h))) (λ new. rw new (new_told new))
