-- How many bytes sizes come to, one after another, and which sizes are told.
use Rattle.office_queries.proofs.Common.{◌≡◌, ℕ, ℤ, pos, ◌+◌, ◌≤◌, true, List, [], ◌∷◌, map, nat_le, Option, Some, None, refl, sym, ap, ◌∙◌, rules, ◌>>=◌, answer_if, max_total, all_told, count_of, ContentRow, contents_of, int_at, Database, Row}
use Rattle.std.specs.List.{fold}
use Rattle.sqlite_keyed.proofs.ListLemmas.{map-map}

-- so many bytes and these, where they are told and fit
abbrev total_with : ℕ → Option (List ℕ) → Option ℕ
total_with bytes counts = counts >>= λ parts. answer_if (nat_le (fold ◌+◌ bytes parts) max_total) (fold ◌+◌ bytes parts)

-- the total of so many bytes and of these sizes
abbrev pub total_after : ℕ → List ℤ → Option ℕ
total_after bytes sizes = total_with bytes (all_told count_of sizes)

module _ (bytes : ℕ) where
  -- the next of the sizes is one more
  pub one_more : (size : ℕ) (sizes : List ℤ) → total_after bytes (pos size ∷ sizes) ≡ total_after (bytes + size) sizes
  one_more size sizes = by (all_told count_of sizes)
    where
      by : (o : Option (List ℕ)) → total_with bytes (o >>= λ others. Some (size ∷ others)) ≡ total_with (bytes + size) o
      by None = refl
      by (Some parts) = refl

  -- the total of no more sizes
  pub total_is : bytes ≤ max_total → total_after bytes [] ≡ Some bytes
  total_is fits = let low : nat_le bytes max_total ≡ true = search (rules, fits) in ap (λ b. answer_if b bytes) low

-- the sizes that rows show are those of the contents
module _ (db : Database) (rows : List Row) (same : map {B = ℤ × ℤ} (λ (c : ContentRow). (c.id, c.size)) (contents_of db) ≡ map {B = ℤ × ℤ} (λ (row : Row). (int_at row 0, int_at row 1)) rows) where
  pub sizes_told : map (λ (c : ContentRow). c.size) (contents_of db) ≡ map (λ (row : Row). int_at row 1) rows
  sizes_told =
      sym (map-map {B = ℤ × ℤ} (λ p. p.1) (λ (c : ContentRow). (c.id, c.size)) (contents_of db))
      ∙ ap (map {A = ℤ × ℤ} (λ p. p.1)) same
      ∙ map-map {B = ℤ × ℤ} (λ p. p.1) (λ (row : Row). (int_at row 0, int_at row 1)) rows
