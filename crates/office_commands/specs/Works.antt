-- What a command on a store comes to. `was` is the traffic before and `now` the traffic after; `alone` says that the value that opens the store is still
-- there, so that nothing was opened by it.
use Rattle.std.specs.Prelude.{◌≡◌, ◌⊎◌, ℕ, List, Option, None, Some, IfSome, Result, Ok, Err, IfOk, IsErrAnd, option_map, string_bytes}
use denote.Ref.{Bor}
use Rattle.std.specs.declared.io.Read.{Ghosts as Reads}
use Rattle.sqlite_disk.specs.declared.Disk.{Ghosts}
use Rattle.office_core.specs.Policies.{PolicyValue}
use Rattle.commands.specs.Explaining.{SpellsPolicyBytes, bad_policy_text}
use Rattle.commands.specs.declared.ending.Ending.TheVariants.{Refused}
use Rattle.commands.specs.PolicyFiles.{IsPolicyRefused as IsRefusedFor}
use Rattle.office_commands.specs.Policies.{IsUnread, installed_text}
use Rattle.office_commands.specs.Stores.{NamedStore, RunsOn}
use Rattle.office_stores.specs.Texts.{IsQuiet, IsUnsaid}
use Rattle.office_commands.specs.Traffic.{Begins, IsUnlogged, LoggedTraffic, Traffic, Upshot, WritesText}
use Rattle.office_stores.specs.declared.done.Done.{Done}
use Rattle.office_stores.specs.declared.fault.CommandFault.{CommandFault}
use Rattle.office_stores.specs.declared.fault.CommandFault.TheVariants as faults
use Rattle.commands.specs.declared.policy_file.RefusedPolicy.{RefusedPolicy}
use Rattle.office_commands.specs.declared.work.Work.{Work}
use Rattle.office_commands.specs.declared.work.Work.TheVariants.{Ask, Policy, Replay, Serve}

-- ---- a policy's file comes first

-- these bytes are refused as a policy, and that comes to this; or they spell one, with which it goes on
pub data ComesOfBytes (IsRefused : RefusedPolicy → Type 0) (GoesOn : Bor PolicyValue → Type 0) (bytes : List ℕ) : Type 0 where
  refused_policy : (refused : RefusedPolicy) → IsRefusedFor bytes refused → IsRefused refused → ComesOfBytes IsRefused GoesOn bytes
  read_policy : (policy : Bor PolicyValue) → SpellsPolicyBytes bytes policy.now → GoesOn policy → ComesOfBytes IsRefused GoesOn bytes

-- nothing is read, written or opened
abbrev pub IsUntouched : Type 0 → LoggedTraffic → LoggedTraffic → Type 0
IsUntouched alone was now = alone × (now ≡ was)

-- the file could not be read, and nothing else was tried
abbrev pub IsUnreadFirst : Type 0 → Upshot Done → Type 0
IsUnreadFirst alone upshot = IsErrAnd upshot.result IsUnread × IsUntouched alone upshot.was upshot.now

-- The file could not be read, or what it gave comes to this: all that it had, where that is known. So what is said of a policy that is refused is said
-- whatever the store is.
abbrev pub ComesOfFile : Option (List ℕ) → Type 0 → (List ℕ → Type 0) → Type 0
ComesOfFile had unread ComesOf = unread ⊎ ((bytes : List ℕ) × IfSome had (λ all. bytes ≡ all) × ComesOf bytes)

-- What comes of a file that is opened, or can't be. `ComesFrom` says what comes of one that has these bytes, where they are known.
abbrev pub ComesOfNamed : {F : Type 0} → Reads F → Type 0 → (Option (List ℕ) → Type 0) → Type 0
ComesOfNamed {F} reads unread ComesFrom = unread ⊎ ((file : F) × ComesFrom (reads.remaining file))

-- ---- an install

-- the fault is printed, and why is left to print to standard error; or the output or memory fails
abbrev pub SaysRefused : RefusedPolicy → Result Done CommandFault → Traffic → Traffic → Type 0
SaysRefused refused (Ok done) was now =
    (option_map string_bytes done.reason ≡ Some (string_bytes refused.reason)) × (done.ending ≡ Refused) × WritesText (bad_policy_text refused.fault) was now
SaysRefused refused (Err fault) was now = IsUnsaid fault × Begins (bad_policy_text refused.fault) was now

-- once the policy is installed that is printed, or the output or memory fails; where it isn't, nothing is printed
abbrev pub SaysInstalled : PolicyValue → Result Done CommandFault → Result Done CommandFault → Traffic → Traffic → Type 0
SaysInstalled policy (Ok _) (Ok done) was now = IsQuiet done × WritesText (installed_text policy) was now
SaysInstalled policy (Ok _) (Err fault) was now = IsUnsaid fault × Begins (installed_text policy) was now
SaysInstalled policy (Err fault) (Err told) was now = (told ≡ fault) × (now ≡ was)
SaysInstalled policy (Err fault) (Ok _) was now = ⊥

-- ---- the commands

-- the policy that is named was refused before a replay
abbrev pub IsRefusedBefore : Type 0 → RefusedPolicy → Upshot Done → Type 0
IsRefusedBefore alone refused upshot = (upshot.result ≡ Err (faults.Policy refused)) × IsUntouched alone upshot.was upshot.now

-- the policy is installed, and then that is printed
abbrev pub InstallsAndSays : {D : Type 0} → Ghosts D → NamedStore → Type 0 → Upshot Done → Bor PolicyValue → Type 0
InstallsAndSays g store alone upshot policy =
    (ran : Result Done CommandFault) × (mid : LoggedTraffic) × RunsOn g store alone (Policy policy) (record { result = ran; was = upshot.was; now = mid })
    × SaysInstalled policy.now ran upshot.result mid.streams upshot.now.streams × (upshot.now.log ≡ mid.log)

-- what comes of an install where these are the bytes of the policy's file
abbrev pub InstallsOf : {D : Type 0} → Ghosts D → NamedStore → Type 0 → Upshot Done → List ℕ → Type 0
InstallsOf g store alone upshot =
    ComesOfBytes (λ refused. alone × SaysRefused refused upshot.result upshot.was.streams upshot.now.streams × IsUnlogged upshot) (λ policy. InstallsAndSays g store alone upshot policy)

-- and of a replay under that policy
abbrev pub ReplaysOf : {D : Type 0} → Ghosts D → NamedStore → Type 0 → Upshot Done → List ℕ → Type 0
ReplaysOf g store alone upshot =
    ComesOfBytes (λ refused. IsRefusedBefore alone refused upshot) (λ policy. RunsOn g store alone (Replay (Some policy)) upshot)

-- what comes of an install, where the policy's file has these bytes or can't be read
abbrev pub InstallsFrom : {D : Type 0} → Ghosts D → NamedStore → Type 0 → Upshot Done → Option (List ℕ) → Type 0
InstallsFrom g store alone upshot had = ComesOfFile had (IsUnreadFirst alone upshot) (InstallsOf g store alone upshot)

-- and of a replay
abbrev pub ReplaysFrom : {D : Type 0} → Ghosts D → NamedStore → Type 0 → Upshot Done → Option (List ℕ) → Type 0
ReplaysFrom g store alone upshot had = ComesOfFile had (IsUnreadFirst alone upshot) (ReplaysOf g store alone upshot)

-- What comes of the work on the store. Of a file that is named it isn't known what it had.
abbrev pub ComesOfWork : {D : Type 0} → Ghosts D → NamedStore → Work (Bor (List ℕ)) → Type 0 → Upshot Done → Type 0
ComesOfWork g store (Policy path) alone upshot = InstallsFrom g store alone upshot None
ComesOfWork g store (Ask day) alone upshot = IfOk upshot.result IsQuiet × RunsOn g store alone (Ask day) upshot
ComesOfWork g store (Replay None) alone upshot = IfOk upshot.result IsQuiet × RunsOn g store alone (Replay None) upshot
ComesOfWork g store (Replay (Some path)) alone upshot = IfOk upshot.result IsQuiet × ReplaysFrom g store alone upshot None
ComesOfWork g store (Serve day port count) alone upshot = IfOk upshot.result IsQuiet × RunsOn g store alone (Serve day port count) upshot
