-- One walk over the refusals of the office and its answers, of what holds of the values that are said of them.
use Rattle.desk_answers.proofs.Common.{◌≡◌, ℕ, List, [], ◌∷◌, false, true, refl, sym, subst, ap, ◌∙◌, map, Some, None, Data, compact_text, has_float, Answer, Refusal, list_of, whole, refusal_data, content_of, Content, json, octets, body_of}
use Rattle.office_core.specs.declared.answer.AuditReport.TheVariants.{Valid, Invalid}
use Rattle.office_core.specs.declared.answer.Answer.TheVariants as answers
use Rattle.office_core.specs.declared.refusal.Refusal.TheVariants as refusals
use Rattle.desk_answers.specs.Rows.{record_data, live_hold_data}
use Rattle.desk_answers.specs.Keys.{has_ascending_keys, content_has_ascending_keys}

-- `compact_text` gives the text of a value without numbers that have a fraction
abbrev pub HasNoFloat : Content → Type 0
HasNoFloat (json value) = has_float value ≡ false
HasNoFloat (octets bytes) = Unit {0}

-- the value has no number with a fraction, and the keys of its objects ascend
abbrev IsOrderly : Data → Type 0
IsOrderly value = (has_float value ≡ false) × (has_ascending_keys value ≡ true)

list_is_orderly : {A : Type 0} (f : A → Data) → ((x : A) → IsOrderly (f x)) → (xs : List A) → IsOrderly (list_of (map f xs))
list_is_orderly f orderly [] = (refl, refl)
list_is_orderly f orderly (x ∷ xs) =
    let now = orderly x in
    let later = list_is_orderly f orderly xs in
    (rw (now.0, later.0), rw (now.1, later.1))

refusal_is_orderly : (refusal : Refusal) → IsOrderly (refusal_data refusal)
refusal_is_orderly (refusals.NoSuch subject) = (refl, refl)
refusal_is_orderly _ = (refl, refl)

-- what an answer carries is such a value, or bytes
pub answer_is_orderly : (answer : Answer) → HasNoFloat (content_of answer) × (content_has_ascending_keys (content_of answer) ≡ true)
answer_is_orderly (answers.Class name (Some count)) = (refl, refl)
answer_is_orderly (answers.Class name None) = (refl, refl)
answer_is_orderly (answers.Collection name) = (refl, refl)
answer_is_orderly (answers.Deposited deposit) = (refl, refl)
answer_is_orderly (answers.List deposits) =
    let rows = list_is_orderly record_data (λ _. (refl, refl)) deposits in
    (rw rows.0, rw rows.1)
answer_is_orderly (answers.Record row) = (refl, refl)
answer_is_orderly (answers.Holds holds) =
    let rows = list_is_orderly live_hold_data (λ _. (refl, refl)) holds in
    (rw rows.0, rw rows.1)
answer_is_orderly (answers.Bag bytes) = (tt, refl)
answer_is_orderly (answers.File bytes) = (tt, refl)
answer_is_orderly (answers.Audit deposit (Valid report)) = (refl, refl)
answer_is_orderly (answers.Audit deposit (Invalid fault)) = (refl, refl)
answer_is_orderly (answers.HoldPlaced hold) = (refl, refl)
answer_is_orderly (answers.HoldReleased hold day) = (refl, refl)
answer_is_orderly (answers.Destroyed deposit day) = (refl, refl)
answer_is_orderly (answers.DueList day deposits) =
    let numbers = list_is_orderly whole (λ _. (refl, refl)) deposits in
    (rw numbers.0, rw numbers.1)
answer_is_orderly (answers.Refused refusal) = refusal_is_orderly refusal

-- the text of a value that an answer carries is its body
pub written_body : (answer : Answer) (value : Data) (text : List ℕ) → json value ≡ content_of answer → (has_float value ≡ false → text ≡ compact_text value) → text ≡ body_of (content_of answer)
written_body answer value text is writes = writes (subst HasNoFloat (sym is) (answer_is_orderly answer).0) ∙ ap body_of is
