-- The keys of a query: what the tests of the code decide.
use Rattle.desk_forms.proofs.Common.{◌≡◌, ℕ, List, [], ◌∷◌, map, nat_eq, Contains, Bor, Decides, refl, sym, pointwise, bytes_decides, Decides-by_and, Decides-by_or, Decides-like, Decides-contains, is_one_of, HasOnly, has_only}
use Rattle.std.specs.List.{list_any}

-- a key is found among keys that are lent
pub list_any-lent : (keys : List (Bor (List ℕ))) (key : List ℕ) → list_any (λ known. pointwise nat_eq key known.now) keys ≡ is_one_of (map (λ k. k.now) keys) key
list_any-lent [] key = refl
list_any-lent (k ∷ keys) key = rw (list_any-lent keys key)

Decides-is_one_of : (keys : List (List ℕ)) (key : List ℕ) → Decides (is_one_of keys key) (Contains keys key)
Decides-is_one_of keys key =
    Decides-contains keys key (is_one_of keys key) (Decides-by_or (λ known. pointwise nat_eq key known) (λ known. known ≡ key) (λ ks. is_one_of ks key) (λ known. Decides-like (pointwise nat_eq key known) sym sym (bytes_decides key known)) refl (λ _ _. refl) keys)

pub Decides-has_only : (keys : List (List ℕ)) (pairs : List (List ℕ × List ℕ)) → Decides (has_only keys pairs) (HasOnly keys pairs)
Decides-has_only keys pairs =
    Decides-by_and (λ (p : List ℕ × List ℕ). is_one_of keys p.0) (λ p. Contains keys p.0) (has_only keys) (λ p. Decides-is_one_of keys p.0) refl (λ _ _. refl) pairs
