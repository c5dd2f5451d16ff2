-- Lists that grow by what an element gives.
use Rattle.bag_folders.proofs.Common.{◌≡◌, ◌∙◌, ◌+◌, ◌<◌, ℕ, List, [], ◌∷◌, ◌++◌, Option, Some, None, get_or, length, refl, sym, ap, take, filter_map, slice_get, AllZip, cons_option, option_or, take_more}
use Rattle.std.proofs.lemmas.List.Elements.{filter_map-append}

pub filter_map_next : {X Y : Type 0} (h : X → Option Y) (xs : List X) (x : X) (old new : List Y)
    → old ≡ filter_map h xs → new ≡ old ++ cons_option (h x) [] → new ≡ filter_map h (xs ++ x ∷ [])
filter_map_next h xs x old new so_far is = is ∙ ap (λ (ys : List _). ys ++ cons_option (h x) []) so_far ∙ sym (filter_map-append h xs (x ∷ []))

pub filter_map_more : {X Y : Type 0} (h : X → Option Y) (xs : List X) (i : ℕ) (d : X) (old new : List Y)
    → i < length xs → old ≡ filter_map h (take i xs) → new ≡ old ++ cons_option (h (get_or xs i d)) [] → new ≡ filter_map h (take (i + 1) xs)
filter_map_more h xs i d old new lt so_far is =
    filter_map_next h (take i xs) (get_or xs i d) old new so_far is ∙ ap (filter_map h) (sym (take_more xs i d lt))

first_of_both : {Y : Type 0} (ys : List Y) (o : Option Y) → option_or (slice_get ys 0) o ≡ slice_get (ys ++ cons_option o []) 0
first_of_both [] None = refl
first_of_both [] (Some y) = refl
first_of_both (y ∷ ys) o = refl

pub first_next : {X Y : Type 0} (h : X → Option Y) (xs : List X) (x : X) (old new : Option Y)
    → old ≡ slice_get (filter_map h xs) 0 → new ≡ option_or old (h x) → new ≡ slice_get (filter_map h (xs ++ x ∷ [])) 0
first_next h xs x old new so_far is =
    is ∙ ap (λ (o : Option _). option_or o (h x)) so_far ∙ first_of_both (filter_map h xs) (h x)
    ∙ ap (λ (ys : List _). slice_get ys 0) (sym (filter_map-append h xs (x ∷ [])))

-- one pair more
pub zip_next : {A B : Type 0} (R : A → B → Type 0) (xs : List A) (ys : List B) (x : A) (y : B) → AllZip R xs ys → R x y → AllZip R (xs ++ x ∷ []) (ys ++ y ∷ [])
zip_next R [] [] x y h r = (r, tt)
zip_next R [] (b ∷ ys) x y h r = absurd h
zip_next R (a ∷ xs) [] x y h r = absurd h
zip_next R (a ∷ xs) (b ∷ ys) x y h r = (h.0, zip_next R xs ys x y h.1 r)
