-- How a proof goes on by cases: by what a test, an option, a result or a comparison gives.
use Rattle.bag_text.proofs.Common.{◌≡◌, Bool, true, false, Option, Some, None, Result, Ok, Err, Ordering, Less, Equal, Greater, refl}

pub by_Bool : {P : Type 0} (b : Bool) → (b ≡ true → P) → (b ≡ false → P) → P
by_Bool true if_true if_false = if_true refl
by_Bool false if_true if_false = if_false refl

pub by_Option : {A P : Type 0} (o : Option A) → (o ≡ None → P) → ((x : A) → o ≡ Some x → P) → P
by_Option None if_none if_some = if_none refl
by_Option (Some x) if_none if_some = if_some x refl

pub by_Result : {A E P : Type 0} (r : Result A E) → ((x : A) → r ≡ Ok x → P) → ((fault : E) → r ≡ Err fault → P) → P
by_Result (Ok x) if_ok if_err = if_ok x refl
by_Result (Err fault) if_ok if_err = if_err fault refl

pub by_Ordering : {P : Type 0} (o : Ordering) → (o ≡ Less → P) → (o ≡ Equal → P) → (o ≡ Greater → P) → P
by_Ordering Less if_less if_equal if_greater = if_less refl
by_Ordering Equal if_less if_equal if_greater = if_equal refl
by_Ordering Greater if_less if_equal if_greater = if_greater refl
