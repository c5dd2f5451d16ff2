-- The names that rules spell, as more rules are read.
use Rattle.office_queries.proofs.Common.{◌≡◌, ℕ, ◌+◌, ◌<◌, Bool, true, false, cond, List, String, [], ◌∷◌, length, take, get_or, bytes_eq, refl, sym, subst, ◌∙◌, HashSet, UpdatesBy, contains_text, string_bytes, string_eq, take_more, bytes_eq-Decides, RuleRow, all_append, all_weaker, AreSpelled}
use Rattle.std.proofs.lemmas.Map.Text.{hash_set_updates_text}

-- a set with one name more has it, and the names that it had
module _ {Y S : Type 0} (these more : HashSet (String Y) S) (name : List ℕ) (updates : UpdatesBy string_eq (λ k. bytes_eq name (string_bytes k)) these more true) where
  after : (other : List ℕ) → contains_text more other ≡ cond (bytes_eq name other) true (contains_text these other)
  after = hash_set_updates_text name these more true updates

  pub has_still : (other : List ℕ) → contains_text these other ≡ true → contains_text more other ≡ true
  has_still other had = after other ∙ by (bytes_eq name other)
    where
      by : (b : Bool) → cond b true (contains_text these other) ≡ true
      by true = refl
      by false = had

  pub has_now : contains_text more name ≡ true
  has_now = after name ∙ (λ i. cond ((bytes_eq-Decides name name).1 refl i) true (contains_text these name))

-- the next rule
module _ (collections classes more_collections more_classes : List ℕ → Bool) (still : (name : List ℕ) → collections name ≡ true → more_collections name ≡ true) (too : (name : List ℕ) → classes name ≡ true → more_classes name ≡ true) where
  pub spelled_next : (rules : List RuleRow) (i : ℕ) (d : RuleRow) → i < length rules → AreSpelled collections classes (take i rules)
      → more_collections (get_or rules i d).collection ≡ true → more_classes (get_or rules i d).class ≡ true
      → AreSpelled more_collections more_classes (take (i + 1) rules)
  spelled_next rules i d low before collection class =
      let kept = all_weaker (λ r. (collections r.collection ≡ true) × (classes r.class ≡ true)) (λ r. (more_collections r.collection ≡ true) × (more_classes r.class ≡ true)) (λ r has. (still r.collection has.0, too r.class has.1)) (take i rules) before in
      subst (AreSpelled more_collections more_classes) (sym (take_more rules i d low))
      (all_append (λ r. (more_collections r.collection ≡ true) × (more_classes r.class ≡ true)) (take i rules) (get_or rules i d ∷ []) kept ((collection, class), tt))
