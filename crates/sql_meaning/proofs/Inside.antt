-- Calls inside a transaction: what stays, that it goes on, and calls in turn.
use Rattle.sql_meaning.proofs.Common.{◌≡◌, ◌⊎◌, inl, inr, ℕ, List, [], ◌∷◌, Bool, true, false, Option, None, Some, Ok, Err, Result, IsTrue, slice_get, refl, ◌∙◌, arith, Row, Trees, State, HasCleanDisk, Survives, KeepsCommit, ExecutesInside, IsUnchanged, Shown, ShowsRows, FailsToQuery, FailsToShow, IsTooLate, IsNotRun, IsRolledBack, Fails, survives_begin}
use Rattle.sqlite.specs.Store.{Ghosts}
use Rattle.sqlite.specs.Held.{Held, state}
use Rattle.sqlite.specs.declared.error.Error.{Error}
use Rattle.sqlite_resolve.specs.declared.compiled.Compiled.{Compiled}
use Rattle.sqlite_schema.specs.declared.command.Returning.{Returning}
use Rattle.sqlite.proofs.StateLemmas.{survives_then}
use Rattle.sql_meaning.specs.Inside.{Stays, GoesOn, GoesOnIfAny}

-- a call that answered was made inside the transaction
pub is_inside : {A E X : Type 0} {a : A} {e : E} (b : Bool) → (b ≡ false → (◌≡◌ {A = Result A E} (Ok a) (Err e)) × X) → IsTrue b
is_inside true ended = refl
is_inside false ended = absurd (let same = (ended refl).0 in cc)

-- ---- a statement that was run

pub goes_executed : (text : List ℕ) (row : Row) (old new : State) (count : ℕ) → ExecutesInside 0 text row old new (Ok count) → GoesOn old new
goes_executed text row old new count h = record { was_open = h.1.was_open; is_open = h.1.is_open; inside = λ _. h.1.mode }

-- ---- a query

shows_goes : (sql : List ℕ) (old new : State) (c : Compiled) (full : Row) (rows : List Row) (r : Option Returning) → ShowsRows old new sql c full rows r → GoesOn old new
shows_goes sql old new c full rows None h = record { was_open = h.3.0.was_open; is_open = h.3.0.is_open; inside = λ inside. h.3.0.mode ∙ inside }
shows_goes sql old new c full rows (Some what) h = record { was_open = h.1.shown.was_open; is_open = h.1.shown.is_open; inside = λ inside. h.1.shown.mode ∙ inside }

pub goes_shown : (sql : List ℕ) (row : Row) (old new : State) (rows : List Row) → Shown sql row old new rows → GoesOn old new
unfolding Shown
goes_shown sql row old new rows h = shows_goes sql old new h.0 _ rows h.0.returning h.2

kept_unchanged : (old new : State) → IsUnchanged old new → KeepsCommit old new
kept_unchanged old new h = record { was_open = λ _. h.0.was_open; committed = λ _. h.0.committed_is }

kept_undone : (old new : State) → IsRolledBack old new → KeepsCommit old new
kept_undone old new h = record { was_open = h.was_open; committed = λ open_now. (h.undone open_now).1 }

kept_stopped : (old new : State) (P U : Type 0) (e : Error) → (P × IsUnchanged old new) ⊎ Fails old new U e → KeepsCommit old new
kept_stopped old new P U e (inl h) = kept_unchanged old new h.1
kept_stopped old new P U e (inr h) = kept_undone old new h.3

module _ (sql : List ℕ) (row : Row) (old new : State) where
  shows_keeps : (c : Compiled) (full : Row) (rows : List Row) (r : Option Returning) → IsTrue old.in_transaction → ShowsRows old new sql c full rows r → KeepsCommit old new
  shows_keeps c full rows None inside h = kept_unchanged old new h.3
  shows_keeps c full rows (Some what) inside h =
      record { was_open = λ _. h.1.shown.was_open; committed = λ _. rw inside at h.1.shown.committed_is }

  pub stays_shown : (rows : List Row) → Survives old new (λ _. ⊥) → (HasCleanDisk new → Shown sql row old new rows) → Stays old new
  unfolding Shown
  stays_shown rows survives h = record { survives = survives; kept = λ clean inside. let it = h clean in shows_keeps it.0 _ rows it.0.returning inside it.2 }

  fails_keeps : (c : Compiled) (full : Row) (e : Error) (r : Option Returning) → FailsToShow old new sql c full e r → KeepsCommit old new
  fails_keeps c full e None h = kept_unchanged old new h.3
  fails_keeps c full e (Some what) h = kept_stopped old new _ _ e h

  failed_keeps : (e : Error) → FailsToQuery sql row old new e ⊎ IsTooLate sql row old new e → KeepsCommit old new
  unfolding FailsToQuery IsNotRun
  failed_keeps e (inl (inl h)) = kept_stopped old new _ _ e h
  failed_keeps e (inl (inr h)) = fails_keeps h.0 _ e h.0.returning h.2
  failed_keeps e (inr h) = kept_unchanged old new h.5

  pub stays_failed : (e : Error) → Survives old new (λ _. ⊥) → (HasCleanDisk new → FailsToQuery sql row old new e ⊎ IsTooLate sql row old new e) → Stays old new
  stays_failed e survives h = record { survives = survives; kept = λ clean _. failed_keeps e (h clean) }

-- ---- calls in turn

pub keeps_then : (a b c : State) → KeepsCommit a b → KeepsCommit b c → KeepsCommit a c
keeps_then a b c p q = record { was_open = λ now. p.was_open (q.was_open now); committed = λ now. q.committed now ∙ p.committed (q.was_open now) }

pub stays_on : (a b c : State) → Stays a b → (HasCleanDisk b → GoesOnIfAny a b) → Stays b c → Stays a c
stays_on a b c p goes q = record {
  survives = survives_then a b c _ _ (λ _. ⊥) (λ _ db none. none) (λ _ db none. none) p.survives q.survives;
  kept = λ clean inside. let early : HasCleanDisk b = omega (arith, q.survives.clean) in keeps_then a b c (p.kept early inside) (q.kept clean ((goes early).inside inside));
}

-- ---- the end of a transaction

module _ {S : Type 0} (g : Ghosts S) (first : Held S) (last end : State) (stays : Stays (state g (record first { in_transaction = true })) last) where
  pub survives_commit : (P : Trees → Type 0) → (HasCleanDisk last → (db : Trees) → db ≡ last.now.trees → P db) → Survives last end (λ db. db ≡ last.now.trees) → Survives (state g first) end P
  survives_commit P commits s =
      survives_then (state g first) last end _ _ P (λ _ db none. absurd none) (λ clean db is. commits (omega (arith, clean, s.clean)) db is) (survives_begin g first last _ stays.survives) s

pub no_first : {X : Type 0} (rows : List X) → None ≡ slice_get rows 0 → rows ≡ []
no_first [] h = refl
no_first (r ∷ rows) h = absurd cc
