-- What requests do to the rows of an office, and to the contents beside them, whichever they are.
use Rattle.std.specs.Prelude.{◌≡◌, ◌⊎◌, List, [], ◌∷◌, Some}
use Rattle.office_core.specs.Policies.{PolicyValue}
use Rattle.office_core.specs.declared.answer.Answer.{Answer}
use Rattle.office_core.specs.declared.request.Request.{Request}
use Rattle.office_history.specs.Runs.{IsFailure, Item}
use Rattle.office_by_rows.specs.Asking.{Visit}
use Rattle.office_by_rows.specs.Changes.{installed}
use Rattle.office_access.specs.Asking.{visit_on}
use Rattle.office_access.specs.Contents.{Rows}
use Rattle.office_access.specs.Serving.{serve_rows}

-- the rows tell this answer to the request of that caller on that day
abbrev pub RowsTell : Rows → Visit → Request → Answer → Type 0
RowsTell r visit request given = (next : Rows) × (serve_rows r visit request ≡ Some (given, next))

-- after this answer the item leaves these rows
abbrev pub RowsMake : Rows → Item → Answer → Rows → Type 0
RowsMake r item given next = serve_rows r (visit_on item.0 item.1.now) item.2 ≡ Some (given, next)

-- one item: a failure, after which the rows are as they were, or what it does to them
abbrev pub RowsStep : Rows → Item → Answer → Rows → Type 0
RowsStep r item given next = (IsFailure given × (next ≡ r)) ⊎ RowsMake r item given next

-- item by item
abbrev pub RowsRun : Rows → List Item → List Answer → Rows → Type 0
RowsRun r [] [] last = last ≡ r
RowsRun r (item ∷ items) (given ∷ more) last = (next : Rows) × RowsStep r item given next × RowsRun next items more last
RowsRun r _ _ last = ⊥

-- the rows after an install: it changes no content
abbrev pub rows_installed : PolicyValue → Rows → Rows
rows_installed policy r = record r { tables = installed policy r.tables }
