-- From what a call answers to what its caller answers.
use Rattle.sql_meaning.proofs.Common.{Ok, Err, Result, OnOk, IfOk}

pub on_ok : {E V : Type 0} {P : V → Type 0} {Q : Type 0} (r : Result V E) → ((v : V) → P v → Q) → IfOk r P → OnOk r Q
on_ok (Ok v) next h = next v h
on_ok (Err e) next h = tt
