-- When a call fails as the store does. `old` is the connection before it and `new` the connection after it.
use Rattle.std.specs.Prelude.{Result, IfErr}
use Rattle.sqlite.specs.Store.{Ghosts}
use Rattle.sqlite.specs.State.{HasCleanDisk}
use Rattle.sqlite.specs.Held.{Held, state}
use Rattle.office_rows.specs.Rows.{Tables}
use Rattle.office_contents.specs.Calls.{IsOfStore}
use Rattle.office_contents.specs.Tables.{IsOffice, tables_of}
use Rattle.office_contents.specs.declared.fault.TableFault.{TableFault}

-- where this is so of the rows before and the call fails, its fault is the store's
abbrev pub FailsInStoreIf : {S T : Type 0} → Ghosts S → Held S → Held S → Result T TableFault → (Tables → Type 0) → Type 0
FailsInStoreIf g old new result is_so = HasCleanDisk (state g new) → IsOffice (state g old).now → is_so (tables_of (state g old).now) → IfErr result (IsOfStore g new)
