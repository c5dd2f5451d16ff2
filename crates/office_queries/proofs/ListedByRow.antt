-- Whether a deposit is listed, and what is told of it, by its row.
use Rattle.office_queries.proofs.Common.{◌≡◌, ℕ, ℤ, Bool, true, false, List, Option, Some, None, is_none, is_some, refl, sym, ap, ◌∙◌, if◌then◌else◌, same_Some, Date, ◌>>=◌, Action, DepositRecord, Refusal, Due, DepositRow, DueRow, Tables, DisposableRow, Wanted, is_allowed_for, is_shown, is_shown_unless, is_wanted, listed_record, disposable_told, record_by, told_if, denial_for, count_of, day_numbered, due_of_number, if_any, option_map_some}
use Rattle.office_core.specs.declared.action.Action.TheVariants as acts

module _ (t : Tables) (role : List ℕ) (day : Date) where
  -- what the rules say of a collection and a class
  pub allowed_is : (action : Action) (collection class : List ℕ) (why : Option Refusal) (is : Bool) → denial_for t role day action (Some collection) (Some class) ≡ Some why → is ≡ is_none why → is_allowed_for t role day action collection class ≡ Some is
  allowed_is action collection class why is denied free = ap (λ o. o >>= λ denied. Some (is_none denied)) denied ∙ ap Some (sym free)

  -- ---- lists

  module _ (wanted : Wanted) (row : DepositRow) where
    asked : is_wanted wanted row ≡ true → is_shown t role day wanted row ≡ is_shown_unless row.gone t role day row
    asked e = ap (λ b. if b then is_shown_unless row.gone t role day row else Some false) e

    -- a deposit that was destroyed on a day
    pub destroyed : (gone : Option Date) → is_wanted wanted row ≡ true → if_any day_numbered row.gone ≡ Some gone → is_some gone ≡ true → is_shown t role day wanted row ≡ Some false
    destroyed gone e told there = asked e ∙ by row.gone told
      where
        by : (number : Option ℤ) → if_any day_numbered number ≡ Some gone → is_shown_unless number t role day row ≡ Some false
        by None told = let none : None ≡ gone = same_Some _ _ told in absurd cc
        by (Some number) told = option_map_some Some (day_numbered number) gone told (λ date is _. ap (λ o. o >>= λ destroyed. Some false) is)

    -- one that wasn't
    pub rules_asked : (gone : Option Date) (is : Bool) → is_wanted wanted row ≡ true → if_any day_numbered row.gone ≡ Some gone → is_some gone ≡ false → is_allowed_for t role day acts.List row.collection row.class ≡ Some is
        → is_shown t role day wanted row ≡ Some is
    rules_asked gone is e told none allowed = asked e ∙ by row.gone told
      where
        by : (number : Option ℤ) → if_any day_numbered number ≡ Some gone → is_shown_unless number t role day row ≡ Some is
        by None told = allowed
        by (Some number) told = option_map_some Some (day_numbered number) gone told (λ date _ same. absurd cc)

  module _ (wanted : Wanted) (both : DepositRow × DueRow) where
    pub listed_if : (shown : Bool) (told : Option DepositRecord) → is_shown t role day wanted both.0 ≡ Some shown → told_if shown (record_by both.0 both.1) ≡ Some told → listed_record t role day wanted both ≡ Some told
    listed_if shown told is of_row = ap (λ o. o >>= λ shown. told_if shown (record_by both.0 both.1)) is ∙ of_row

  -- ---- due lists

  module _ (place : DisposableRow) (due : Due) (is_due : due_of_number place.due ≡ Some due) where
    -- its number, where that is allowed
    pub number_if_told : (number : ℕ) (allowed : Bool) → is_allowed_for t role day acts.Dispose place.collection place.class ≡ Some allowed → count_of place.number ≡ Some number → disposable_told t role day place ≡ Some (if allowed then Some number else None)
    number_if_told number allowed is counted = (λ i. is_due i >>= λ due. is i >>= λ allowed. told_if allowed (counted i)) ∙ by allowed
      where
        by : (b : Bool) → told_if b (Some number) ≡ Some (if b then Some number else None)
        by true = refl
        by false = refl
