-- What the refusals of a deposit and of a disposal come to, each as the rows tell it.
use Rattle.office_deposits.proofs.Common.{◌≡◌, ℕ, ℤ, pos, true, false, not, List, [], ◌∷◌, map, Option, Some, None, Result, Ok, Err, IfOk, option_map, is_none, refl, sym, ap, ◌∙◌, answer_if, first_some, Refusal, NoSuch, ClassRow, DepositRow, Tables, class_named, deposit_numbered, has_collection, is_deposit, Visit, denial_in, first_told, no_such_class, filing_refusals, years_shown}
use Rattle.std.proofs.lemmas.Bool.Decides.{Decides-int_eq}
use Rattle.office_core.specs.Descriptions.{Description}
use Rattle.office_core.specs.declared.action.Action.TheVariants as acts
use Rattle.office_core.specs.declared.refusal.Subject.TheVariants as subjects
use Rattle.office_tables.proofs.OrderLemmas.{first_passes}

-- what two facts of an Ok come to
pub both_of_ok : {A E : Type 0} (result : Result A E) (P Q R : A → Type 0) → ((x : A) → P x → Q x → R x) → IfOk result P → IfOk result Q → IfOk result R
both_of_ok (Ok x) P Q R both p q = both x p q
both_of_ok (Err fault) P Q R both p q = tt

-- of one refusal, whether it applies or not
pub one_told : (why : Option Refusal) → first_told (Some why ∷ []) ≡ Some why
one_told (Some why) = refl
one_told None = refl

-- of some that are all told
pub all_told_first : (these : List (Option Refusal)) → first_told (map Some these) ≡ Some (first_some these)
all_told_first [] = refl
all_told_first (Some why ∷ more) = refl
all_told_first (None ∷ more) = all_told_first more

-- ---- where a bag is deposited

module _ (t : Tables) (visit : Visit) (description : Description) where
  abbrev denied : Option (Option Refusal)
  denied = denial_in t visit acts.Deposit (Some description.collection) (Some description.class)

  pub no_collection_first : false ≡ has_collection description.collection t → first_told (filing_refusals t visit description) ≡ Some (Some (NoSuch subjects.Collection))
  no_collection_first e = ap (λ b. first_told (Some (answer_if (not b) (NoSuch subjects.Collection)) ∷ Some (no_such_class t description.class) ∷ denied ∷ [])) (sym e)

  -- there is a class where its row shows years
  is_there : (row : Option ClassRow) (found : Option ℤ) → found ≡ option_map (λ (c : ClassRow). c.years) row → is_none row ≡ is_none found
  is_there None found e = sym (ap (λ o. is_none o) e)
  is_there (Some row) found e = sym (ap (λ o. is_none o) e)

  module _ (there : true ≡ has_collection description.collection t) where
    pub no_class_first : None ≡ years_shown t description.class → first_told (filing_refusals t visit description) ≡ Some (Some (NoSuch subjects.Class))
    no_class_first read =
        λ i. first_told (Some (answer_if (not (sym there i)) (NoSuch subjects.Collection)) ∷ Some (answer_if (is_there (class_named description.class t.classes) None read i) (NoSuch subjects.Class)) ∷ denied ∷ [])

    pub denial_first : (years : ℤ) → Some years ≡ years_shown t description.class → (why : Option Refusal) → denied ≡ Some why → first_told (filing_refusals t visit description) ≡ Some why
    denial_first years read why is =
        (λ i. first_told (Some (answer_if (not (sym there i)) (NoSuch subjects.Collection)) ∷ Some (answer_if (is_there (class_named description.class t.classes) (Some years) read i) (NoSuch subjects.Class)) ∷ is i ∷ [])) ∙ one_told why

-- ---- a deposit that is destroyed

-- the row that is found by a number has it
pub row_number : (t : Tables) (n : ℕ) (row : DepositRow) → Some row ≡ deposit_numbered (pos n) t.deposits → pos n ≡ row.number
row_number t n row found = sym ((Decides-int_eq row.number (pos n)).0 (first_passes (is_deposit (pos n)) t.deposits row (sym found)))
