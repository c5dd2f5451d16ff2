-- Calls inside a transaction, one after the other: what is said of each is said of all. From the clause `inside` of each, antt knows
-- the connections and the results.
use Rattle.office_contents.proofs.Common.{refl, sym, subst, ◌∙◌, inl, arith, Ok, Err, MutBor, on_ok_weaker, Ghosts, State, HasCleanDisk, Held, state, stays_on, Continues, ContinuesInTurn, GoesOnInside, GoesOnInTurn, Keeps, IsFailure, IsOffice, TableFault}
use Rattle.std.specs.Prelude.{Result, IfErr, OnOk}
use Rattle.sql_meaning.specs.Inside.{Stays, GoesOn, GoesOnIfAny}

-- a disk that is clean after a call was clean before it
pub clean_first : {old new : State} → Stays old new → HasCleanDisk new → HasCleanDisk old
clean_first stays clean = let before = stays.survives.clean in omega arith

-- what is so is said of any result
pub whatever : {A E P : Type 0} (result : Result A E) → P → OnOk result P
whatever (Ok value) so = so
whatever (Err fault) so = tt

-- ---- one call, or none

-- of a call that is Ok, whatever is answered
pub inside_as : {S A B : Type 0} {g : Ghosts S} {old new : MutBor (Held S)} {x : A} → GoesOnInside g old new (Ok x) → (result : Result B TableFault) → IfErr result IsFailure → GoesOnInside g old new result
inside_as it result failure = record { same_reference = it.same_reference; stays = it.stays; goes_on = λ clean. whatever result (it.goes_on clean); failure = failure }

-- a call is calls in turn
pub in_turn : {S B : Type 0} {g : Ghosts S} {old new : MutBor (Held S)} {result : Result B TableFault} → GoesOnInside g old new result → GoesOnInTurn g old new result
in_turn {result = result} it = record {
  same_reference = it.same_reference;
  stays = it.stays;
  goes_on = λ clean. on_ok_weaker result (λ goes. record { is_open = λ _. goes.is_open; inside = goes.inside }) (it.goes_on clean);
  failure = it.failure;
}

-- calls in turn are a call where the transaction was open, and still is
inside_of : {S B : Type 0} {g : Ghosts S} {old new : MutBor (Held S)} {result : Result B TableFault} → GoesOnInTurn g old new result → Continues g old.now new.now result → GoesOnInside g old new result
inside_of it goes_on = record { same_reference = it.same_reference; stays = it.stays; goes_on = goes_on; failure = it.failure }

-- of calls in turn that are Ok, whatever is answered
pub turn_as : {S A B : Type 0} {g : Ghosts S} {old new : MutBor (Held S)} {x : A} → GoesOnInTurn g old new (Ok x) → (result : Result B TableFault) → IfErr result IsFailure → GoesOnInTurn g old new result
turn_as it result failure = record { same_reference = it.same_reference; stays = it.stays; goes_on = λ clean. whatever result (it.goes_on clean); failure = failure }

-- where no call was made
pub stays_still : (a : State) → Stays a a
stays_still a = record {
  survives = record {
    clean = omega arith;
    shield = λ shielded. shielded;
    counts = omega arith;
    limit = refl;
    closes = λ _ is_open. inl is_open;
    crash = λ _ db left. inl left;
  };
  kept = λ _ _. record { was_open = λ is_open. is_open; committed = λ _. refl };
}

module _ {S B : Type 0} {g : Ghosts S} {old : MutBor (Held S)} (result : Result B TableFault) (failure : IfErr result IsFailure) where
  pub none_called : GoesOnInTurn g old old result
  none_called = record { same_reference = refl; stays = stays_still (state g old.now); goes_on = λ _. whatever result (record { is_open = λ is_open. is_open; inside = λ inside. inside }); failure = failure }

  pub failed_before : Continues g old.now old.now result → GoesOnInside g old old result
  failed_before goes_on = record { same_reference = refl; stays = stays_still (state g old.now); goes_on = goes_on; failure = failure }

-- ---- calls in turn, and then more of them

module _ {S A B : Type 0} {g : Ghosts S} {old mid new : MutBor (Held S)} {x : A} {second : Result B TableFault} (before : GoesOnInTurn g old mid (Ok x)) (after : GoesOnInTurn g mid new second) where
  on : HasCleanDisk (state g new.now) → GoesOnIfAny (state g mid.now) (state g new.now) → GoesOnIfAny (state g old.now) (state g new.now)
  on clean then = let first = before.goes_on (clean_first after.stays clean) in record { is_open = λ was. then.is_open (first.is_open was); inside = λ was. then.inside (first.inside was) }

  -- the result of the last is that of all
  pub turn_then : GoesOnInTurn g old new second
  turn_then = record {
    same_reference = after.same_reference ∙ before.same_reference;
    stays = stays_on (state g old.now) (state g mid.now) (state g new.now) before.stays before.goes_on after.stays;
    goes_on = λ clean. on_ok_weaker second (on clean) (after.goes_on clean);
    failure = after.failure;
  }

  -- they fail with a fault of their own
  pub turn_failed : {C : Type 0} (result : Result C TableFault) → ContinuesInTurn g old.now new.now result → IfErr result IsFailure → GoesOnInTurn g old new result
  turn_failed result goes_on failure = record { same_reference = turn_then.same_reference; stays = turn_then.stays; goes_on = goes_on; failure = failure }

-- in a loop, the calls of the turns before and that of this turn
pub turn_next : {S A B C : Type 0} {g : Ghosts S} {old mid new : MutBor (Held S)} {x : A} {y : B} {z : C} → GoesOnInTurn g old mid (Ok x) → GoesOnInside g mid new (Ok y) → GoesOnInTurn g old new (Ok z)
turn_next {z = z} before after = turn_as (turn_then before (in_turn after)) (Ok z) tt

-- ---- a call, and then calls in turn

module _ {S A B : Type 0} {g : Ghosts S} {old mid new : MutBor (Held S)} {x : A} {second : Result B TableFault} (before : GoesOnInside g old mid (Ok x)) (after : GoesOnInTurn g mid new second) where
  goes : HasCleanDisk (state g new.now) → GoesOnIfAny (state g mid.now) (state g new.now) → GoesOn (state g old.now) (state g new.now)
  goes clean then = let first = before.goes_on (clean_first after.stays clean) in record { was_open = first.was_open; is_open = then.is_open first.is_open; inside = λ was. then.inside (first.inside was) }

  -- the result of the last is that of all
  pub then_in_turn : GoesOnInside g old new second
  then_in_turn = inside_of (turn_then (in_turn before) after) (λ clean. on_ok_weaker second (goes clean) (after.goes_on clean))

  -- they fail with a fault of their own
  pub failed_in_turn : {C : Type 0} (result : Result C TableFault) → Continues g old.now new.now result → IfErr result IsFailure → GoesOnInside g old new result
  failed_in_turn result goes_on failure = record { same_reference = then_in_turn.same_reference; stays = then_in_turn.stays; goes_on = goes_on; failure = failure }

  -- no row changes
  pub same_in_turn : Keeps {E = TableFault} g old.now mid.now (Ok x) → Keeps {E = TableFault} g mid.now new.now second → Keeps {E = TableFault} g old.now new.now second
  same_in_turn first then clean office =
      let same = first (clean_first after.stays clean) office in
      on_ok_weaker second (λ e. e ∙ same) (then clean (subst IsOffice (sym same) office))

-- ---- two calls

module _ {S A B : Type 0} {g : Ghosts S} {old mid new : MutBor (Held S)} {x : A} {second : Result B TableFault} (before : GoesOnInside g old mid (Ok x)) (after : GoesOnInside g mid new second) where
  -- the second call's result is that of both
  pub inside_then : GoesOnInside g old new second
  inside_then = then_in_turn before (in_turn after)

  -- they fail with a fault of their own
  pub inside_failed : {C : Type 0} (result : Result C TableFault) → Continues g old.now new.now result → IfErr result IsFailure → GoesOnInside g old new result
  inside_failed = failed_in_turn before (in_turn after)

-- both are Ok, whatever is answered
pub inside_after : {S A B C : Type 0} {g : Ghosts S} {old mid new : MutBor (Held S)} {x : A} {y : B} → GoesOnInside g old mid (Ok x) → GoesOnInside g mid new (Ok y)
    → (result : Result C TableFault) → IfErr result IsFailure → GoesOnInside g old new result
inside_after before after = inside_as (inside_then before after)
