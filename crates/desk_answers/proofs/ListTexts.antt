-- The text of a list, made item by item.
use Rattle.desk_answers.proofs.Common.{◌≡◌, ℕ, ◌≤◌, Bool, false, List, [], ◌∷◌, ◌++◌, length, take, drop, map, codes, sym, ap, ◌∙◌, append_assoc, drop_all, drop_at, take_at, Data, string, items_of, compact_text, items_text, object_of, list_of}

-- what is still to write of a list, with its end
abbrev pub rest_text : {A : Type 0} → (A → Data) → Bool → List A → List ℕ
rest_text told later items = items_text later (items_of (map told items))

-- after the last item are the ends of the list and of the object whose one member it is
pub whole_text : {A : Type 0} (told : A → Data) (key : List ℕ) (later : Bool) (before after : List ℕ) (items : List A) (i : ℕ) → after ≡ before ++ codes "]}" → length items ≤ i → before ++ rest_text told later (drop i items) ≡ (codes "{" ++ (compact_text (string key) ++ codes ":[")) ++ rest_text told false items → after ≡ compact_text (object_of ((key, list_of (map told items)) ∷ []))
whole_text told key later before after items i is all written =
    is ∙ sym (append_assoc before (codes "]") (codes "}"))
    ∙ ap (λ text. text ++ codes "}") (ap (λ rest. before ++ rest_text told later rest) (sym (drop_all i items all)) ∙ written)
    ∙ simp append_assoc

-- what was after a text is before it
pub turned : (body head text bytes : List ℕ) (len : ℕ) → text ≡ body ++ head → length body ≡ len → bytes ≡ drop len text ++ take len text → bytes ≡ head ++ body
turned body head text bytes len is at turns = turns ∙ rw (is, drop_at body head len at, take_at body head len at)
