-- A query on an office in which memory runs out undoes its transaction.
use Rattle.std.specs.Prelude.{Result, IfErr, IfOk, IsErr, IsErrAnd}
use Rattle.office_contents.proofs.Common.{◌≡◌, ℕ, List, false, Ok, Err, refl, sym, ap, subst, ◌∙◌, inl, inr, Row, Term, State, IsPlain, command_of, Asks, office_schema, IsOffice, IsFailure, TableFault}
use Rattle.sqlite.specs.Listing.{understood}
use Rattle.sqlite.specs.State.{FailsToQuery, IsNoStatement, IsNotRun}
use Rattle.sqlite.specs.declared.error.Error.TheVariants.{SqliteFailure}
use Rattle.sqlite.specs.declared.error.ErrorCode.TheVariants.{OutOfMemory}
use Rattle.sqlite_value.specs.declared.keys.Key.{Key}
use Rattle.office_contents.specs.Calls.{RunsOut}
use Rattle.office_contents.specs.Faults.{IsStoreUnless}
use Rattle.office_contents.specs.declared.fault.TableFault.TheVariants.{NotAnOffice, OtherVersion, Memory, Store}

-- a fault of the store is told as one
pub store_unless : (wanting : Type 0) (fault : TableFault) → IsFailure fault → (fault ≡ Memory → wanting) → IsStoreUnless wanting fault
store_unless wanting NotAnOffice failure memory = failure
store_unless wanting OtherVersion failure memory = failure
store_unless wanting Memory failure memory = memory refl
store_unless wanting Store failure memory = tt

understood_well : (sql : List ℕ) (params : Row) (old : State) → IsNoStatement old sql params (SqliteFailure OutOfMemory) → ⊥
understood_well sql params old (inl (fault, is, e)) = cc
understood_well sql params old (inr (c, is, inl (more, e))) = cc
understood_well sql params old (inr (c, is, inr (inl (others, e)))) = cc
understood_well sql params old (inr (c, is, inr (inr (clock, e)))) = cc

module _ {text : List ℕ} {tree : ℕ} {test project : List Term} {order : List (Term × Key)} (asks : Asks office_schema text tree test project order) (params : Row) (old new : State) (office : IsOffice old.now) where
  pub undone : RunsOut text params old new → new.in_transaction ≡ false
  unfolding FailsToQuery IsNotRun
  undone (inl (inl (inl h))) = absurd (understood_well text params old h.0)
  undone (inl (inl (inr h))) = h.3.autocommit
  undone (inl (inr h)) =
      let known = sym h.1.is ∙ ap (λ s. understood s text) office.whole.schema_is in
      let bare = subst IsPlain (sym known) asks.plain in
      let it = rw (bare.0, ap command_of known ∙ asks.command) at h.2 in
      absurd (elim it.2 [
        | inl (e, _) ↦ cc
        | inr (inl (e, _)) ↦ cc
        | inr (inr (e, _)) ↦ cc
      ])
  undone (inr h) = absurd (let e = h.4 in cc)

  -- so such a query fails as the store does
  pub fails_in_store : {T : Type 0} (result : Result T TableFault) → IfErr result IsFailure → IfErr result (λ fault. fault ≡ Memory → RunsOut text params old new) → IfErr result (IsStoreUnless (new.in_transaction ≡ false))
  fails_in_store (Ok value) failure memory = tt
  fails_in_store (Err fault) failure memory = store_unless (new.in_transaction ≡ false) fault failure (λ is. undone (memory is))

-- ---- a call that fails

-- by `?` its fault is passed on
pub passed_on : {T : Type 0} (P : TableFault → Type 0) (result : Result T TableFault) (fault : TableFault) → IsErrAnd result (λ told. told ≡ fault) → P fault → IsErrAnd result P
passed_on P (Ok value) fault is so = is
passed_on P (Err told) fault is so = subst P (sym is) so

-- what would be answered can't be
pub fails_unless : {T E : Type 0} (result : Result T E) (P Q : T → Type 0) → ((value : T) → P value → Q value → ⊥) → IfOk result P → IfOk result Q → IsErr result
fails_unless (Ok value) P Q never p q = absurd (never value p q)
fails_unless (Err fault) P Q never p q = refl
