-- What the commands on a store print, and how the program ends.
use Rattle.std.specs.Prelude.{◌≡◌, ◌++◌, ◌∷◌, [], ℕ, List, Bool, false, true, Option, None, Some, ⊤, codes, decimal, string_bytes}
use Rattle.commands.specs.Explaining.{bad_policy_text}
use Rattle.commands.specs.Failing.{message_of as failure_text}
use Rattle.commands.specs.declared.failure.Failure.TheVariants as failures
use Rattle.commands.specs.declared.ending.Ending.{Ending}
use Rattle.commands.specs.declared.ending.Ending.TheVariants as endings
use Rattle.std.specs.IoError.{error_kind}
use Rattle.std.specs.declared.io.ErrorKind.{ErrorKind}
use Rattle.std.specs.declared.io.ErrorKind.TheVariants.{OutOfMemory}
use Rattle.sqlite.specs.declared.error.Error.{Error}
use Rattle.sqlite.specs.declared.error.Error.TheVariants.{SqliteFailure}
use Rattle.sqlite.specs.declared.error.ErrorCode.TheVariants as codes_of
use Rattle.office_contents.specs.Faults as tables_of
use Rattle.office_contents.specs.declared.fault.TableFault.{TableFault}
use Rattle.office_contents.specs.declared.fault.TableFault.TheVariants as tables
use Rattle.office_stores.specs.declared.done.Done.{Done}
use Rattle.office_stores.specs.declared.fault.Cause.{Cause}
use Rattle.office_stores.specs.declared.fault.Cause.TheVariants.{Accept, Close, Empty, Install, Listen, Missing, Open, Output, Refused, Search, Taken}
use Rattle.office_stores.specs.declared.fault.CommandFault.{CommandFault}
use Rattle.office_stores.specs.declared.fault.CommandFault.TheVariants.{Policy, BadRecord, Failed}
use Rattle.office_stores.specs.declared.fault.StoreFault.{StoreFault}
use Rattle.office_stores.specs.declared.fault.StoreFault.TheVariants.{NotAnOffice, OtherVersion, Memory, Store, Device}

-- the line of a failure
abbrev pub message_of : StoreFault → List ℕ
message_of NotAnOffice = codes "store Q1" ++ 10 ∷ []
message_of OtherVersion = codes "store Q2" ++ 10 ∷ []
message_of Memory = failure_text failures.Memory
message_of Store = codes "store Q4" ++ 10 ∷ []
message_of Device = failure_text failures.Device

-- the line of a bad record
abbrev pub bad_record_text : ℕ → List ℕ
bad_record_text index = codes "record " ++ decimal index ++ 10 ∷ []

-- what is printed to standard error: a line, and of a policy that is refused also why
abbrev pub command_fault_text : CommandFault → List ℕ
command_fault_text (Policy refused) = bad_policy_text refused.fault ++ string_bytes refused.reason
command_fault_text (BadRecord index) = bad_record_text index
command_fault_text (Failed fault cause) = message_of fault

-- how the program ends then
abbrev pub ending_of : CommandFault → Ending
ending_of (Policy fault) = endings.Refused
ending_of (BadRecord index) = endings.Refused
ending_of (Failed fault cause) = endings.Failed

-- the command ends well, and nothing is printed to standard error
abbrev pub IsQuiet : Done → Type 0
IsQuiet done = (done.reason ≡ None) × (done.ending ≡ endings.Accepted)

-- ---- what the faults of the layers below come to

-- it is the store or memory, and no device
abbrev pub IsOfStore : StoreFault → Type 0
IsOfStore Device = ⊥
IsOfStore _ = ⊤

-- what keeps a store from being opened
abbrev pub IsOfOpening : Option Cause → Type 0
IsOfOpening None = ⊤
IsOfOpening (Some (Search error)) = ⊤
IsOfOpening (Some (Refused error)) = ⊤
IsOfOpening (Some (Open error)) = ⊤
IsOfOpening (Some Missing) = ⊤
IsOfOpening (Some Empty) = ⊤
IsOfOpening (Some Taken) = ⊤
IsOfOpening (Some _) = ⊥

-- the store can't be opened
abbrev pub IsUnopenable : CommandFault → Type 0
IsUnopenable (Policy refused) = ⊥
IsUnopenable (BadRecord index) = ⊥
IsUnopenable (Failed fault cause) = IsOfStore fault × IsOfOpening cause

-- the store can't be closed
abbrev pub IsUnclosable : CommandFault → Type 0
IsUnclosable (Failed fault (Some (Close error))) = IsOfStore fault
IsUnclosable _ = ⊥

-- a line could not be printed: standard output or memory failed
abbrev pub IsUnsaid : CommandFault → Type 0
IsUnsaid (Failed Device (Some Output)) = ⊤
IsUnsaid (Failed Memory cause) = ⊤
IsUnsaid _ = ⊥

-- nothing was found where the store is to be
abbrev pub is_of_nothing : Option Cause → Bool
is_of_nothing None = false
is_of_nothing (Some Missing) = true
is_of_nothing (Some _) = false

abbrev pub found_nothing : CommandFault → Bool
found_nothing (Policy refused) = false
found_nothing (BadRecord index) = false
found_nothing (Failed fault cause) = is_of_nothing cause

-- that came of the search for the store, before it was opened
abbrev pub is_of_search : Option Cause → Bool
is_of_search (Some (Search error)) = true
is_of_search (Some Missing) = true
is_of_search (Some Empty) = true
is_of_search _ = false

abbrev pub is_sought : CommandFault → Bool
is_sought (Policy refused) = false
is_sought (BadRecord index) = false
is_sought (Failed fault cause) = is_of_search cause

abbrev pub fails : StoreFault → CommandFault
fails fault = Failed fault None

-- the host's files that can't be asked where the store is
abbrev pub search_failure : ErrorKind → StoreFault
search_failure OutOfMemory = Memory
search_failure _ = Store

-- a store that can't be opened or closed
abbrev pub store_failure : Error → StoreFault
store_failure (SqliteFailure codes_of.OutOfMemory) = Memory
store_failure _ = Store

abbrev pub table_fault : TableFault → StoreFault
table_fault tables.NotAnOffice = NotAnOffice
table_fault tables.OtherVersion = OtherVersion
table_fault tables.Memory = Memory
table_fault tables.Store = Store

-- an office that can't be made or taken up
abbrev pub table_failure : TableFault → CommandFault
table_failure fault = fails (table_fault fault)

-- a policy that can't be installed
abbrev pub install_failure : TableFault → CommandFault
install_failure fault = Failed (table_fault fault) (Some (Install fault))

abbrev pub IsUninstalled : CommandFault → Type 0
IsUninstalled fault = (tables : TableFault) × tables_of.IsFailure tables × (fault ≡ install_failure tables)

-- a device that failed with this error, which may be that memory ran out
abbrev pub device_failure : ErrorKind → StoreFault
device_failure OutOfMemory = Memory
device_failure _ = Device

-- the port can't be had
abbrev pub IsUnheard : CommandFault → Type 0
IsUnheard (Failed fault (Some (Listen error))) = fault ≡ device_failure (error_kind error)
IsUnheard _ = ⊥

-- a connection can't be accepted
abbrev pub IsUnaccepted : CommandFault → Type 0
IsUnaccepted (Failed fault (Some (Accept error))) = fault ≡ device_failure (error_kind error)
IsUnaccepted _ = ⊥
