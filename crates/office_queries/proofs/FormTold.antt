-- Files that are a bag, and files that are none.
use Rattle.office_queries.proofs.Common.{◌≡◌, ℕ, Option, Some, None, is_none, refl, ap, sym, subst, ◌∙◌, if◌then◌else◌, List, Result, Err, ListFault, list_fault, File, IsBag, set_text, SetFault, Tables, bag_in, stored_files}
use Rattle.bag_text.specs.declared.set_fault.SetFault.TheVariants as faults
use Rattle.bag_text.proofs.ListLemmas.{list_bag_law, list_fault_law}
use Rattle.office_core.specs.declared.answer.Answer.TheVariants as answers

module _ (files : List File) where
  -- lack of memory is not answered for files that are no bag: they are refused with a fault of theirs
  pub wants_memory : {T : Type 0} (result : Result T SetFault) → ((why : SetFault) → ListFault files why → result ≡ Err why) → result ≡ Err faults.Memory → (IsBag files → ⊥) → ⊥
  wants_memory result refused is never = by (list_fault files) refl
    where
      by : (o : Option SetFault) → list_fault files ≡ o → ⊥
      by None none = never ((list_bag_law files).0 none)
      by (Some why) some =
          let stands = (list_fault_law files why).0 some in
          let same : Err why ≡ Err faults.Memory = sym (refused why stands) ∙ is in
          let memory : why ≡ faults.Memory = cc in
          (subst (ListFault files) memory stands).5

-- what is answered of the files that stand in the tables, where they are a bag
pub bag_is : (t : Tables) (n : ℕ) → IsBag (stored_files n t) → bag_in t n ≡ Some (answers.Bag (set_text (stored_files n t)))
bag_is t n bag = ap (λ o. if is_none o then Some (answers.Bag (set_text (stored_files n t))) else None) ((list_bag_law (stored_files n t)).1 bag)
