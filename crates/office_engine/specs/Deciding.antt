-- Which requests only read, and what is found inside a transaction, by whichever legal history the tables picture.
use Rattle.std.specs.Prelude.{Bool, true, false, Result, IfOk}
use Rattle.sqlite.specs.Store.{Ghosts}
use Rattle.sqlite.specs.State.{HasCleanDisk}
use Rattle.sqlite.specs.Held.{Held, state}
use Rattle.office_core.specs.declared.request.Request.{Request}
use Rattle.office_core.specs.declared.request.Request.TheVariants.{Audit, DownloadBag, DownloadFile, DueList, Holds, List, Record}
use Rattle.office_history.specs.Histories.{History}
use Rattle.office_history.specs.Runs.{IsLegal}
use Rattle.office_access.specs.Pictures.{Pictures}

-- whether the request asks for no change
abbrev pub is_reading : Request → Bool
is_reading (List collection class) = true
is_reading (Record n) = true
is_reading (Holds n) = true
is_reading (DownloadBag n) = true
is_reading (DownloadFile n path) = true
is_reading (Audit n) = true
is_reading DueList = true
is_reading request = false

-- no row changes, and this is so of the history and of what is found
abbrev pub Finds : {S T E : Type 0} → Ghosts S → Held S → Held S → Result T E → (History → T → Type 0) → Type 0
Finds g old new result is_so =
    HasCleanDisk (state g new) → (h : History) → IsLegal h → Pictures h (state g old).now → IfOk result (λ found. Pictures h (state g new).now × is_so h found)
