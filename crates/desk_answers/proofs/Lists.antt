use Rattle.desk_answers.proofs.Common.{◌≡◌, ℕ, ◌+◌, ◌<◌, List, [], ◌∷◌, ◌++◌, length, get_or, take, map, map-append, take_more}

-- one more item on either side, which is seen alike, and which a loop reads in its turn
pub map-take_next : {A B C : Type 0} (f : A → C) (g : B → C) (xs new : List A) (x : A) (ys : List B) (i : ℕ) (d : B) → map f xs ≡ map g (take i ys) → new ≡ xs ++ x ∷ [] → f x ≡ g (get_or ys i d) → i < length ys → map f new ≡ map g (take (i + 1) ys)
map-take_next f g xs new x ys i d before is same low =
    rw (is, map-append f xs (x ∷ []), take_more ys i d low, map-append g (take i ys) (get_or ys i d ∷ []), before, same)
