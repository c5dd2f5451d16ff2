-- What a query over one table answers, from what the call says.
use Rattle.sql_meaning.proofs.FirstLemmas.{◌≡◌, ◌⊎◌, ℕ, List, [], ◌∷◌, map, filter, find, slice_get, option_map, Bool, true, false, Some, Less, refl, sym, ap, ◌∙◌, inl, inr, AllByRecursion, list_any, cases_Bool, Row, Term, output, output_cmp, Schema, State, Shown, IsAscending, Select, understood, reads_listing, IsPlain, command_of, reads_as, Key, Has, all_from, found_by, scan, as_program, shown_of, Scans, scanned, answers_one, answers_rising, shown_same}
use Rattle.sql_meaning.proofs.Scanning.{passes}

-- the text is this query over one table, under the schema
pub record Asks (schema : Schema) (text : List ℕ) (tree : ℕ) (test project : List Term) (order : List (Term × Key)) : Type 0 where
  pub names : List (List ℕ)
  pub command : command_of (understood schema text) ≡ Select (as_program (scan tree test project order)) names
  pub unlisted : reads_listing schema text ≡ false
  pub plain : IsPlain (understood schema text)

module _ (schema : Schema) (text : List ℕ) (tree : ℕ) (test project : List Term) (order : List (Term × Key)) (asks : Asks schema text tree test project order)
    (params : Row) (old new : State) (has : old.now.schema ≡ schema) (rows : List Row) (shown : Shown text params old new rows) where
  pub reads_same : new.now ≡ old.now
  reads_same = (shown_same text params old new schema has asks.plain rows shown).0.now_is

  pub reads_scan : Scans old.now.trees params tree test project order rows
  reads_scan = scanned old.now.trees params tree test project order rows (reads_as text params old new schema has _ asks.command asks.plain asks.unlisted rows shown).answer

  -- at most one row passes
  pub reads_one : (keep : Row → Bool) → AllByRecursion (λ r. passes params test r ≡ keep r) (old.now.trees tree)
      → (filter keep (old.now.trees tree) ≡ []) ⊎ ((r : Row) × Has (old.now.trees tree) r × (keep r ≡ true) × (filter keep (old.now.trees tree) ≡ r ∷ []))
      → rows ≡ map (shown_of params project) (filter keep (old.now.trees tree))
  reads_one keep each few = answers_one old.now.trees params tree test project order rows keep reads_scan each few

  -- the rows come in the order of their table
  pub reads_rising : (keep : Row → Bool) → AllByRecursion (λ r. passes params test r ≡ keep r) (old.now.trees tree)
      → IsAscending (λ a b. output_cmp (scan tree test project order) (output (scan tree test project order) (params ∷ a ∷ [])) (output (scan tree test project order) (params ∷ b ∷ [])) ≡ Less) (old.now.trees tree)
      → rows ≡ map (shown_of params project) (filter keep (old.now.trees tree))
  reads_rising keep each rising = answers_rising old.now.trees params tree test project order rows keep reads_scan each rising

-- ---- the typed rows

module _ {Y : Type 0} (stored answer : List Row) (keep : Row → Bool) (shown : Row → Row) (decode : Row → Y) (test : Y → Bool) (tests : (r : Row) → test (decode r) ≡ keep r) (is : answer ≡ map shown (filter keep stored)) where
  -- the part that the answer shows of the typed row that passes
  pub finds_part : {Z : Type 0} (part : Y → Z) (show : Row → Z) → ((r : Row) → show (shown r) ≡ part (decode r)) → option_map part (find test (map decode stored)) ≡ option_map show (slice_get answer 0)
  finds_part part show shows =
      ap (option_map part) (found_by test keep decode stored (all_from _ stored (λ r there. tests r))) ∙ first (filter keep stored) ∙ ap (λ rs. option_map show (slice_get rs 0)) (sym is)
    where
      first : (rs : List Row) → option_map part (option_map decode (slice_get rs 0)) ≡ option_map show (slice_get (map shown rs) 0)
      first [] = refl
      first (r ∷ rs) = ap Some (sym (shows r))

  -- whether one passes
  pub finds_any : list_any test (map decode stored) ≡ list_any (λ r. true) answer
  finds_any = any_kept stored ∙ ap (list_any (λ r. true)) (sym is)
    where
      any_kept : (rs : List Row) → list_any test (map decode rs) ≡ list_any (λ r. true) (map shown (filter keep rs))
      any_kept [] = refl
      any_kept (r ∷ rs) = elim (cases_Bool (keep r)) [
        | inl is ↦ let t : test (decode r) ≡ true = tests r ∙ is in rw (t, is) refl
        | inr isnt ↦ let t : test (decode r) ≡ false = tests r ∙ isnt in rw (t, isnt) (any_kept rs)
      ]
