-- The value of the rule with a number.
use Rattle.fault_words.proofs.Common.{◌≡◌, ◌∙◌, ℕ, suc, Bool, List, [], ◌∷◌, Option, map, option_and_then, option_map, slice_get, refl, sym, ap, Some, slice_get-map, Data, items_of, items_view, view, Value, elements, numbered_key, value_at, value_key}

elements-items_of : (values : List Data) → elements (items_of values) ≡ values
elements-items_of [] = refl
elements-items_of (value ∷ more) = ap (λ rest. value ∷ rest) (elements-items_of more)

element_at : (place : ℕ) (values : List Value) → value_at (suc place) (elements (items_view values)) ≡ option_map view (slice_get values place)
element_at place values = ap (λ found. slice_get found place) (elements-items_of (map view values)) ∙ slice_get-map view values place

-- the key of the value that was found at the place of a number
pub key_at : (with_days : Bool) (number place : ℕ) (values : List Value) (found : Option Value) → number ≡ suc place → found ≡ slice_get values place
    → option_and_then (value_key with_days) (option_map view found) ≡ numbered_key with_days number (Some (elements (items_view values)))
key_at with_days number place values found next is =
    ap (option_and_then (value_key with_days)) (ap (option_map view) is ∙ sym (element_at place values))
    ∙ ap (λ (n : ℕ). numbered_key with_days n (Some (elements (items_view values)))) (sym next)
