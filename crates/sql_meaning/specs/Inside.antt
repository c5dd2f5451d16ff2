-- What a call inside a transaction does to its connection.
use Rattle.std.specs.Prelude.{IsTrue}
use Rattle.sqlite.specs.State.{State, HasCleanDisk, Survives, KeepsCommit}

-- on each exit: nothing is committed, and a crash leaves what it could leave before
pub record Stays (old new : State) : Type 0 where
  pub survives : Survives old new (λ _. ⊥)
  pub kept : HasCleanDisk new → IsTrue old.in_transaction → KeepsCommit old new

-- where the call succeeds: the transaction goes on
pub record GoesOn (old new : State) : Type 0 where
  pub was_open : IsTrue old.is_open
  pub is_open : IsTrue new.is_open
  pub inside : IsTrue old.in_transaction → IsTrue new.in_transaction

-- the same of calls in turn, of which there may be none
pub record GoesOnIfAny (old new : State) : Type 0 where
  pub is_open : IsTrue old.is_open → IsTrue new.is_open
  pub inside : IsTrue old.in_transaction → IsTrue new.in_transaction
