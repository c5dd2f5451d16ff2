-- A command on a store that comes to its end answers yes or no.
use Rattle.std.proofs.Common.{inl, inr, ℕ, List, None, Some, Result, Ok, Err, IfOk}
use denote.Ref.{Bor}
use Rattle.sqlite.specs.Recovery.{Image}
use Rattle.sqlite_disk.specs.declared.Disk.{Ghosts}
use Rattle.commands.specs.Printing.{IsAnswer}
use Rattle.office_commands.specs.Traffic.{LoggedTraffic, Traffic}
use Rattle.office_commands.specs.Works.{ComesOfWork, SaysInstalled, read_policy, refused_policy}
use Rattle.office_stores.specs.declared.done.Done.{Done}
use Rattle.office_stores.specs.declared.fault.CommandFault.{CommandFault}
use Rattle.office_commands.specs.declared.work.Work.{Work}
use Rattle.office_commands.specs.declared.work.Work.TheVariants.{Ask, Policy, Replay, Serve}
use Rattle.office_core.specs.Policies.{PolicyValue}

installed_answered : (policy : PolicyValue) (ran : Result Done CommandFault) (done : Done) (was now : Traffic) → SaysInstalled policy ran (Ok done) was now → IsAnswer done.ending
installed_answered policy (Ok _) done was now says = inl says.0.1
installed_answered policy (Err fault) done was now says = absurd says

pub store_answered : {D : Type 0} (g : Ghosts D) (first : Image) (store : List ℕ) (work : Work (Bor (List ℕ))) (alone : Type 0) (result : Result Done CommandFault) (was now : LoggedTraffic)
    → ComesOfWork g (record { name = store; first = first }) work alone (record { result = result; was = was; now = now }) → IfOk result (λ done. IsAnswer done.ending)
store_answered g first store work alone (Err fault) was now comes = tt
store_answered g first store (Policy path) alone (Ok done) was now (inl unread) = absurd unread.0
store_answered g first store (Policy path) alone (Ok done) was now (inr (bytes, known, refused_policy refused is says)) = inr says.1.1
store_answered g first store (Policy path) alone (Ok done) was now (inr (bytes, known, read_policy policy spells ran)) = installed_answered policy.now ran.0 done ran.1.streams now.streams ran.3
store_answered g first store (Ask day) alone (Ok done) was now comes = inl comes.0.1
store_answered g first store (Replay None) alone (Ok done) was now comes = inl comes.0.1
store_answered g first store (Replay (Some path)) alone (Ok done) was now comes = inl comes.0.1
store_answered g first store (Serve day port count) alone (Ok done) was now comes = inl comes.0.1
