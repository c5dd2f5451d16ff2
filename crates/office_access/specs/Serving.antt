-- What is written and served inside a transaction. `old` is the connection before it and `new` the connection after it. An Err says nothing
-- of the rows: its transaction is rolled back.
use Rattle.std.specs.Prelude.{◌≡◌, Option, Some, Result, IfOk, OnOk}
use Rattle.sqlite.specs.Effect.{Database}
use Rattle.sqlite.specs.Store.{Ghosts}
use Rattle.sqlite.specs.State.{HasCleanDisk}
use Rattle.sqlite.specs.Held.{Held, state}
use Rattle.office_core.specs.FirstOf.{◌>>=◌, answer_if}
use Rattle.office_core.specs.declared.answer.Answer.{Answer}
use Rattle.office_core.specs.declared.request.Request.{Request}
use Rattle.office_rows.specs.Rows.{Tables}
use Rattle.office_contents.specs.Contents.{StoresOnce}
use Rattle.office_contents.specs.Tables.{Becomes, IsOffice, tables_of}
use Rattle.office_by_rows.specs.Asking.{Visit}
use Rattle.office_by_rows.specs.Serving.{serve}
use Rattle.office_access.specs.Contents.{Contents, IsOfficeWith, Rows, contents_after, contents_in, rows_of, downloads_intact}

-- the rows and the contents are what this makes of those before; and contents that were stored once still are
pub record IsRewrittenBy (change : Tables → Option Tables) (keep : Tables → Contents → Contents) (old new : Database) : Type 0 where
  pub rows : Tables
  pub is : change (tables_of old) ≡ Some rows
  pub becomes : Becomes new rows
  pub contents : contents_in new ≡ keep (tables_of old) (contents_in old)
  pub once : StoresOnce old → StoresOnce new

-- rows and contents are written
abbrev pub Rewrites : {S T E : Type 0} → Ghosts S → Held S → Held S → Result T E → (Tables → Option Tables) → (Tables → Contents → Contents) → Type 0
Rewrites g old new result change keep = HasCleanDisk (state g new) → IsOffice (state g old).now → OnOk result (IsRewrittenBy change keep (state g old).now (state g new).now)

-- the rows are what this makes of those before, and no content changes
abbrev pub IsChangedBy : (Tables → Option Tables) → Database → Database → Type 0
IsChangedBy change = IsRewrittenBy change (λ t contents. contents)

-- rows are written
abbrev pub Changes : {S T E : Type 0} → Ghosts S → Held S → Held S → Result T E → (Tables → Option Tables) → Type 0
Changes g old new result change = HasCleanDisk (state g new) → IsOffice (state g old).now → OnOk result (IsChangedBy change (state g old).now (state g new).now)

-- ---- a request

-- after a request that was answered so and left these tables
abbrev pub rows_after : Rows → Request → Answer → Tables → Rows
rows_after r request given next = record { tables = next; contents = contents_after r.tables request given r.contents }

-- what a request comes to: what is answered, and which rows are left. None where the rows tell nothing, and where what is served isn't intact.
abbrev pub serve_rows : Rows → Visit → Request → Option (Answer × Rows)
serve_rows r visit request = do
  served ← serve r.tables visit request
  answer_if (downloads_intact r request served.0) (served.0, rows_after r request served.0 served.1)

-- the answer, and the rows after it, are what the request comes to by those before; and contents that were stored once still are
pub record IsServedBy (visit : Visit) (request : Request) (old new : Database) (given : Answer) : Type 0 where
  pub rows : Rows
  pub is : serve_rows (rows_of old) visit request ≡ Some (given, rows)
  pub leaves : IsOfficeWith rows new
  pub once : StoresOnce old → StoresOnce new

-- a request is served
abbrev pub Serves : {S E : Type 0} → Ghosts S → Held S → Held S → Result Answer E → Visit → Request → Type 0
Serves g old new result visit request = HasCleanDisk (state g new) → IsOffice (state g old).now → IfOk result (IsServedBy visit request (state g old).now (state g new).now)
