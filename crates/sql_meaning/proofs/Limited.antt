-- What LIMIT 1 answers: whether any row passes.
use Rattle.sql_meaning.proofs.FirstLemmas.{◌≡◌, ℕ, pos, List, [], ◌∷◌, map, take, Bool, true, false, refl, sym, ap, ◌∙◌, inl, inr, AllByRecursion, list_any, cases_Bool, Null, Int, Row, Term, lit, Query, IsSureAnswer, Output, Schema, Trees, State, Shown, Select, understood, reads_listing, IsPlain, command_of, reads_as, overlay, Has, some_has, some_from, scan, as_program, shown_of, scanned, answer_sound, answer_complete, shown_same}
use Rattle.sql_meaning.proofs.Scanning.{passes}

-- SELECT project FROM table WHERE test LIMIT 1
abbrev pub some_scan : ℕ → List Term → List Term → Query
some_scan tree test project = record (scan tree test project []) { limit = lit (Int (pos 1)) }

pub record AsksSome (schema : Schema) (text : List ℕ) (tree : ℕ) (test project : List Term) : Type 0 where
  pub names : List (List ℕ)
  pub command : command_of (understood schema text) ≡ Select (as_program (some_scan tree test project)) names
  pub unlisted : reads_listing schema text ≡ false
  pub plain : IsPlain (understood schema text)

answers_some : (db : Trees) (params : Row) (tree : ℕ) (test project : List Term) (rows : List Row) (keep : Row → Bool) → AllByRecursion (λ r. passes params test r ≡ keep r) (db tree)
    → IsSureAnswer (some_scan tree test project) (overlay db []) params rows → list_any keep (db tree) ≡ list_any (λ r. true) rows
answers_some db params tree test project rows keep each h =
    let a = h Null in
    let all = map (λ (o : Output). o.1) a.ordered in
    let whole : IsSureAnswer (scan tree test project []) (overlay db []) params all = λ lost. record { staged = a.staged; grouped = a.grouped; kept = a.kept; distinct = a.distinct; ordered = a.ordered; same = a.same; sorted = a.sorted; shown = refl } in
    let s = scanned db params tree test project [] all whole in
    let shown : rows ≡ take 1 all = a.shown in
    by all shown (answer_sound db params tree test project [] all keep s each) (answer_complete db params tree test project [] all keep s each)
  where
    by : (all : List Row) → rows ≡ take 1 all → ((x : Row) → Has all x → (r : Row) × Has (db tree) r × (keep r ≡ true) × (x ≡ shown_of params project r))
        → ((r : Row) → Has (db tree) r → keep r ≡ true → Has all (shown_of params project r)) → list_any keep (db tree) ≡ list_any (λ r. true) rows
    by [] is sound complete = elim (cases_Bool (list_any keep (db tree))) [
      | inl some ↦ absurd (let it = some_has keep (db tree) some in complete it.0 it.1 it.2)
      | inr none ↦ none ∙ sym (ap (list_any (λ r. true)) is)
    ]
    by (x ∷ more) is sound complete = let it = sound x (inl refl) in some_from keep (db tree) it.0 it.1 it.2 ∙ sym (ap (list_any (λ r. true)) is)

-- a text that is this query tells whether any row passes, and changes nothing
pub reads_some : (schema : Schema) (text : List ℕ) (tree : ℕ) (test project : List Term) → AsksSome schema text tree test project → (params : Row) (old new : State) → old.now.schema ≡ schema → (rows : List Row)
    → Shown text params old new rows → (keep : Row → Bool) → AllByRecursion (λ r. passes params test r ≡ keep r) (old.now.trees tree)
    → (new.now ≡ old.now) × (list_any keep (old.now.trees tree) ≡ list_any (λ r. true) rows)
reads_some schema text tree test project asks params old new has rows h keep each = (
  (shown_same text params old new schema has asks.plain rows h).0.now_is,
  answers_some old.now.trees params tree test project rows keep each (reads_as text params old new schema has _ asks.command asks.plain asks.unlisted rows h).answer,
)
