-- What a writer has taken of a text.
use Rattle.std.proofs.Common.{◌≡◌, ◌∙◌, ◌+◌, [], ℕ, List, Option, sym, ap, subst, take, take-add, drop}
use Rattle.std.proofs.lemmas.List.{append-nil, drop-drop}
use Rattle.std.proofs.KnownBytes.{Appends-trans, Appends-kept}
use Rattle.std.specs.Io.KnownBytes.{Appends, Keeps}
use Rattle.streams.specs.Writing.{GoesOnWith}

-- a beginning of the text is taken, and the rest is left
pub record HasTaken (text rest : List ℕ) (old new : Option (List ℕ)) : Type 0 where
  pub count : ℕ
  pub left : rest ≡ drop count text
  pub front : Appends old new (take count text)

pub more_taken : (text rest : List ℕ) (old mid new : Option (List ℕ)) (n : ℕ) → HasTaken text rest old mid → Appends mid new (take n rest)
    → HasTaken text (drop n rest) old new
more_taken text rest old mid new n is more = record {
  count = is.count + n;
  left = ap (drop n) is.left ∙ drop-drop n is.count text;
  front = subst (Appends old new) (sym (take-add is.count n text))
      (Appends-trans old mid new (take is.count text) (take n (drop is.count text)) is.front (subst (λ (r : List ℕ). Appends mid new (take n r)) is.left more));
}

pub no_more_taken : (text rest : List ℕ) (old mid new : Option (List ℕ)) → HasTaken text rest old mid → Keeps mid new → HasTaken text rest old new
no_more_taken text rest old mid new is kept =
    record { count = is.count; left = is.left; front = Appends-kept old mid new (take is.count text) is.front kept }

-- a text that was taken whole, with nothing after it
pub begins_with : (text : List ℕ) (old new : Option (List ℕ)) → Appends old new text → GoesOnWith text old new
begins_with text old new taken = ([], subst (Appends old new) (sym (append-nil text)) taken)
