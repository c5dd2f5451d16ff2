-- What a command on a store comes to.
use Rattle.office_commands.proofs.Common.{◌≡◌, ◌⊎◌, ℕ, List, [], ◌∷◌, Option, None, Some, IfSome, Result, Ok, Err, IfErr, IfOk, OnOk, Bor, inl, inr, refl, sym, subst, Appends, Date, Held, Image, Ghosts, AreDone, Deed, fails, installs, ComesOfAsk, DoesTask, IsPortFor, Listens, ComesOfReplay, ReplaysAfter, Task, install_of, IsUninstalled, IsUnsaid, LoggedTraffic, Traffic, said_in, Done, CommandFault, Ask, Policy, Replay, Serve}
use Rattle.std.specs.Prelude.{option_map, string_bytes}
use Rattle.sqlite_disk.specs.declared.Disk.{Ghosts as Disks}
use Rattle.office_core.specs.Policies.{PolicyValue}
use Rattle.commands.specs.Explaining.{bad_policy_text}
use Rattle.streams.specs.Writing.{IsCutShort}
use Rattle.commands.specs.declared.ending.Ending.TheVariants.{Refused}
use Rattle.commands.specs.PolicyFiles.{IsAllOf, IsRead}
use Rattle.office_commands.specs.Policies.{installed_text}
use Rattle.office_commands.specs.Works.{ComesOfWork, ComesOfBytes, ComesOfFile, SaysInstalled, SaysRefused, read_policy, refused_policy}
use Rattle.office_stores.specs.Texts.{IsQuiet}
use Rattle.commands.specs.declared.policy_file.RefusedPolicy.{RefusedPolicy}
use Rattle.commands.specs.declared.trouble.Trouble.{Trouble}
use Rattle.office_commands.specs.declared.work.Work.{Work}

-- ---- a policy that comes first

pub after_install : {S T : Type 0} (g : Ghosts S) (installed : Result T CommandFault) (x : T) (r : Result T CommandFault) (given : Option (Bor PolicyValue)) (policy : Bor PolicyValue) (old mid new : Held S)
    (was now : Traffic) → given ≡ Some policy → installed ≡ Ok x → AreDone g (install_of installed policy.now ∷ []) old mid → ((deeds : List Deed) × ComesOfReplay r deeds was now × AreDone g deeds mid new)
    → (deeds : List Deed) × ReplaysAfter given r deeds was now × AreDone g deeds old new
after_install {T = T} g installed x r given policy old mid new was now same is first rest =
    let it : AreDone g (installs policy.now ∷ []) old mid = subst (λ (i : Result T CommandFault). AreDone g (install_of i policy.now ∷ []) old mid) is first in (
      installs policy.now ∷ rest.0,
      subst (λ (p : Option (Bor PolicyValue)). ReplaysAfter p r (installs policy.now ∷ rest.0) was now) (sym same) (inl (rest.0, refl, rest.1)),
      (it.0, it.1, subst (λ (s : Held _). AreDone g rest.0 s new) it.2 rest.2),
    )

pub not_installed : {S T : Type 0} (g : Ghosts S) (installed : Result T CommandFault) (fault : CommandFault) (given : Option (Bor PolicyValue)) (policy : Bor PolicyValue) (old new : Held S) (was : Traffic)
    → given ≡ Some policy → installed ≡ Err fault → IsUninstalled fault → AreDone g (install_of installed policy.now ∷ []) old new
    → (deeds : List Deed) × ReplaysAfter {T = T} given (Err fault) deeds was was × AreDone g deeds old new
not_installed {T = T} g installed fault given policy old new was same is failed done =
    let it : AreDone g (fails policy.now ∷ []) old new = subst (λ (i : Result T CommandFault). AreDone g (install_of i policy.now ∷ []) old new) is done in
    (fails policy.now ∷ [], subst (λ (p : Option (Bor PolicyValue)). ReplaysAfter {T = T} p (Err fault) (fails policy.now ∷ []) was was) (sym same) (inr (failed, refl, refl)), it)

-- ---- what is read of a policy's file

-- all that the reader had, where that is known
pub read_of : (had left : Option (List ℕ)) (r : Result (Result PolicyValue RefusedPolicy) Trouble) (read : Result PolicyValue RefusedPolicy) → r ≡ Ok read
    → IfOk r (λ read. (bytes : List ℕ) × IsAllOf had left bytes × IsRead bytes read) → IfSome had (λ given. IfOk r (IsRead given))
    → (bytes : List ℕ) × IfSome had (λ all. bytes ≡ all) × IsRead bytes read
read_of None left r read is it given =
    let at = subst (λ (x : Result (Result PolicyValue RefusedPolicy) Trouble). IfOk x (λ read. (bytes : List ℕ) × IsAllOf None left bytes × IsRead bytes read)) is it in (at.0, tt, at.2)
read_of (Some all) left r read is it given = (all, refl, subst (λ (x : Result (Result PolicyValue RefusedPolicy) Trouble). IfOk x (IsRead all)) is given)

pub goes_on : (had : Option (List ℕ)) {unread : Type 0} {IsRefused : RefusedPolicy → Type 0} {GoesOn : Bor PolicyValue → Type 0} (read : Result PolicyValue RefusedPolicy) (policy : Bor PolicyValue)
    → read ≡ Ok policy.now → ((bytes : List ℕ) × IfSome had (λ all. bytes ≡ all) × IsRead bytes read) → GoesOn policy → ComesOfFile had unread (ComesOfBytes IsRefused GoesOn)
goes_on had read policy is it on = inr (it.0, it.1, read_policy policy (subst (IsRead it.0) is it.2) on)

pub is_refused : (had : Option (List ℕ)) {unread : Type 0} {IsRefused : RefusedPolicy → Type 0} {GoesOn : Bor PolicyValue → Type 0} (read : Result PolicyValue RefusedPolicy) (refused : RefusedPolicy)
    → read ≡ Err refused → ((bytes : List ℕ) × IfSome had (λ all. bytes ≡ all) × IsRead bytes read) → IsRefused refused → ComesOfFile had unread (ComesOfBytes IsRefused GoesOn)
is_refused had read refused is it refuses = inr (it.0, it.1, refused_policy refused (subst (IsRead it.0) is it.2) refuses)

-- ---- what is said of it

pub says_refused : (r : Result Done CommandFault) (refused : RefusedPolicy) (was now : Traffic) → OnOk r (Appends was.output now.output (bad_policy_text refused.fault))
    → IsCutShort (bad_policy_text refused.fault) was.output now.output → IfOk r (λ done. option_map string_bytes done.reason ≡ Some (string_bytes refused.reason)) → IfOk r (λ done. done.ending ≡ Refused)
    → IfErr r IsUnsaid → SaysRefused refused r was now
says_refused (Ok done) refused was now printed written reason ending failed = (reason, ending, printed)
says_refused (Err fault) refused was now printed written reason ending failed = (failed, written)

pub says_installed : (ran : Result Done CommandFault) (x : Done) (r : Result Done CommandFault) (policy : PolicyValue) (was now : Traffic) → ran ≡ Ok x → OnOk r (Appends was.output now.output (installed_text policy))
    → IsCutShort (installed_text policy) was.output now.output → IfOk r IsQuiet → IfErr r IsUnsaid → SaysInstalled policy ran r was now
says_installed ran x r policy was now is said written quiet failed = subst (λ (i : Result Done CommandFault). SaysInstalled policy i r was now) (sym is) (go r said written quiet failed)
  where
    go : (r : Result Done CommandFault) → OnOk r (Appends was.output now.output (installed_text policy)) → IsCutShort (installed_text policy) was.output now.output → IfOk r IsQuiet → IfErr r IsUnsaid
        → SaysInstalled policy (Ok x) r was now
    go (Ok done) said written quiet failed = (quiet, said)
    go (Err fault) said written quiet failed = (failed, written)

pub says_nothing : (ran : Result Done CommandFault) (fault : CommandFault) (policy : PolicyValue) (was : Traffic) → ran ≡ Err fault → SaysInstalled policy ran (Err fault) was was
says_nothing ran fault policy was is = subst (λ (i : Result Done CommandFault). SaysInstalled policy i (Err fault) was was) (sym is) (refl, refl)

-- ---- what a task does

pub does_install : {S T : Type 0} (g : Ghosts S) (task : Task) (policy : Bor PolicyValue) (r : Result T CommandFault) (old new : Held S) (was : LoggedTraffic) → task ≡ Policy policy → IfErr r IsUninstalled
    → AreDone g (install_of r policy.now ∷ []) old new → DoesTask g task (record { result = r; was = was; now = was }) old new
does_install g task policy r old new was is failed done =
    subst (λ (t : Task). DoesTask g t (record { result = r; was = was; now = was }) old new) (sym is) (install_of r policy.now ∷ [], (failed, refl, refl), done)

pub does_ask : {S T : Type 0} (g : Ghosts S) (task : Task) (day : Date) (r : Result T CommandFault) (old new : Held S) (was now : LoggedTraffic) → task ≡ Ask day → now.log ≡ was.log
    → ((deeds : List Deed) × ComesOfAsk day r deeds was.streams now.streams × AreDone g deeds old new) → DoesTask g task (record { result = r; was = was; now = now }) old new
does_ask g task day r old new was now is same it =
    subst (λ (t : Task). DoesTask g t (record { result = r; was = was; now = now }) old new) (sym is) (it.0, (it.1, same), it.2)

pub does_replay : {S T : Type 0} (g : Ghosts S) (task : Task) (policy : Option (Bor PolicyValue)) (r : Result T CommandFault) (old new : Held S) (was now : LoggedTraffic) → task ≡ Replay policy
    → now.log ≡ was.log → ((deeds : List Deed) × ReplaysAfter policy r deeds was.streams now.streams × AreDone g deeds old new)
    → DoesTask g task (record { result = r; was = was; now = now }) old new
does_replay g task policy r old new was now is same it =
    subst (λ (t : Task). DoesTask g t (record { result = r; was = was; now = now }) old new) (sym is) (it.0, (it.1, same), it.2)

pub does_serve : {S T : Type 0} (g : Ghosts S) (task : Task) (day : Date) (port count : ℕ) (r : Result T CommandFault) (old new : Held S) (was now : LoggedTraffic) → task ≡ Serve day port count → now.streams.input ≡ was.streams.input
    → ((told : ℕ) × (deeds : List Deed) × IsPortFor port told × Listens (record { day = day; port = told; count = count }) r deeds (said_in was) (said_in now) × AreDone g deeds old new)
    → DoesTask g task (record { result = r; was = was; now = now }) old new
does_serve g task day port count r old new was now is same it =
    subst (λ (t : Task). DoesTask g t (record { result = r; was = was; now = now }) old new) (sym is) (it.1, (same, (it.0, it.2, it.3)), it.4)

-- ---- what a work comes to

-- a file of the host, of which it isn't known what it has
pub of_host : {F unread : Type 0} {ComesOf : List ℕ → Type 0} → unread ⊎ ((file : F) × ComesOfFile None unread ComesOf) → ComesOfFile None unread ComesOf
of_host (inl none) = inl none
of_host (inr it) = it.1

pub comes_as : {D : Type 0} (g : Disks D) (first : Image) (name : List ℕ) (work other : Work (Bor (List ℕ))) (alone : Type 0) (result : Result Done CommandFault) (was now : LoggedTraffic) → work ≡ other
    → ComesOfWork g (record { name = name; first = first }) other alone (record { result = result; was = was; now = now })
    → ComesOfWork g (record { name = name; first = first }) work alone (record { result = result; was = was; now = now })
comes_as g first name work other alone result was now same it =
    subst (λ (w : Work (Bor (List ℕ))). ComesOfWork g (record { name = name; first = first }) w alone (record { result = result; was = was; now = now })) (sym same) it
