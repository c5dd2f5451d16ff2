-- Keeping each text once, one after the other.
use Rattle.test_plain.proofs.Common.{◌≡◌, ℕ, true, false, ◌||◌, List, [], ◌∷◌, ◌++◌, refl, sym, ap, ◌∙◌, append_assoc, cond, bytes_eq, list_any, map-append, Bor, distinct_after, texts}
use Rattle.std.proofs.Math.Bool.{or_comm, or-false}
use Rattle.std.proofs.lemmas.List.Folds.{list_any-append}

-- which texts were seen decides, and not their order
abbrev HaveSame : List (List ℕ) → List (List ℕ) → Type 0
HaveSame seen others = (x : List ℕ) → list_any (bytes_eq x) seen ≡ list_any (bytes_eq x) others

same_after : (seen others texts : List (List ℕ)) → HaveSame seen others → distinct_after seen texts ≡ distinct_after others texts
same_after seen others [] same = refl
same_after seen others (text ∷ texts) same = λ i.
    cond (same text i) (same_after seen others texts same i) (text ∷ same_after (text ∷ seen) (text ∷ others) texts (λ x. ap (λ b. bytes_eq x text || b) (same x)) i)

one_behind : (seen : List (List ℕ)) (text : List ℕ) → HaveSame (text ∷ seen) (seen ++ text ∷ [])
one_behind seen text x =
    or_comm (bytes_eq x text) (list_any (bytes_eq x) seen)
    ∙ ap (λ b. list_any (bytes_eq x) seen || b) (sym (or-false (bytes_eq x text)))
    ∙ sym (list_any-append (bytes_eq x) seen (text ∷ []))

-- a text that isn't among those found is the next of them
text_found : (found rest : List (List ℕ)) (text : List ℕ) → list_any (bytes_eq text) found ≡ false
    → (found ++ text ∷ []) ++ distinct_after (found ++ text ∷ []) rest ≡ found ++ distinct_after found (text ∷ rest)
text_found found rest text new =
    append_assoc found (text ∷ []) (distinct_after (found ++ text ∷ []) rest)
    ∙ ap (λ (more : List (List ℕ)). found ++ text ∷ more) (sym (same_after (text ∷ found) (found ++ text ∷ []) rest (one_behind found text)))
    ∙ sym (ap (λ b. found ++ cond b (distinct_after found rest) (text ∷ distinct_after (text ∷ found) rest)) new)

pub borrowed_found : (found : List (Bor (List ℕ))) (text : Bor (List ℕ)) (rest : List (List ℕ)) → list_any (bytes_eq text.now) (texts found) ≡ false
    → texts (found ++ text ∷ []) ++ distinct_after (texts (found ++ text ∷ [])) rest ≡ texts found ++ distinct_after (texts found) (text.now ∷ rest)
borrowed_found found text rest new =
    ap (λ (xs : List (List ℕ)). xs ++ distinct_after xs rest) (map-append (λ (t : Bor (List ℕ)). t.now) found (text ∷ []))
    ∙ text_found (texts found) rest text.now new

-- and one that is among them is passed over
pub text_passed : (found rest : List (List ℕ)) (text : List ℕ) → list_any (bytes_eq text) found ≡ true
    → found ++ distinct_after found rest ≡ found ++ distinct_after found (text ∷ rest)
text_passed found rest text old =
    sym (ap (λ b. found ++ cond b (distinct_after found rest) (text ∷ distinct_after (text ∷ found) rest)) old)
