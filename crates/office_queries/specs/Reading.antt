-- A request that only reads is served inside a transaction. `old` is the connection before it and `new` the connection after it.
use Rattle.std.specs.Prelude.{◌≡◌, true, Some, Result, IfOk}
use Rattle.sqlite.specs.Effect.{Database}
use Rattle.sqlite.specs.Store.{Ghosts}
use Rattle.sqlite.specs.State.{HasCleanDisk}
use Rattle.sqlite.specs.Held.{Held, state}
use Rattle.office_core.specs.declared.answer.Answer.{Answer}
use Rattle.office_core.specs.declared.request.Request.{Request}
use Rattle.office_contents.specs.Tables.{IsOffice, tables_of}
use Rattle.office_by_rows.specs.Answers.{allowed_answer}
use Rattle.office_by_rows.specs.Asking.{Visit}
use Rattle.office_access.specs.Contents.{Contents, contents_after, rows_of, downloads_intact}
use Rattle.office_access.specs.Serving.{IsServedBy}

-- nothing of the database changes, and the request is served
abbrev pub ServesReading : {S E : Type 0} → Ghosts S → Held S → Held S → Result Answer E → Visit → Request → Type 0
ServesReading g old new result visit request =
    HasCleanDisk (state g new) → IsOffice (state g old).now → IfOk result (λ given. ((state g new).now ≡ (state g old).now) × IsServedBy visit request (state g old).now (state g new).now given)

-- nothing of the database changes, and this is the answer to the request where it isn't refused, whoever asks: it serves only what is intact
pub record IsReadFor (request : Request) (old new : Database) (given : Answer) : Type 0 where
  pub same : new ≡ old
  pub answered : (visit : Visit) → allowed_answer (tables_of old) visit request ≡ Some given
  pub intact : downloads_intact (rows_of old) request given ≡ true
  pub leaves : (k : Contents) → contents_after (tables_of old) request given k ≡ k
