-- What is said in an accepted answer: its status and what it carries. The form is Depot's own.
use Rattle.std.specs.Prelude.{ℕ, List, [], ◌∷◌, codes, map, Option, Some, None, true, false}
use Rattle.jiff.specs.Types.{Date}
use Rattle.serde_json.specs.Data.{Data, null, boolean, string}
use Rattle.bag_text.specs.Declaration.{version_text}
use Rattle.office_core.specs.Days.{day_text}
use Rattle.bag_text.specs.declared.report.BagReport.{BagReport}
use Rattle.office_core.specs.declared.answer.DepositRecord.{DepositRecord}
use Rattle.office_core.specs.declared.answer.LiveHold.{LiveHold}
use Rattle.office_core.specs.declared.answer.AuditReport.{AuditReport}
use Rattle.office_core.specs.declared.answer.AuditReport.TheVariants.{Valid, Invalid}
use Rattle.office_core.specs.declared.answer.Answer.{Answer}
use Rattle.office_core.specs.declared.answer.Answer.TheVariants.{Class, Collection, Deposited, List as ListOf, Record, Holds, Bag, File, Audit, HoldPlaced, HoldReleased, Destroyed, DueList, Refused}
use Rattle.desk_answers.specs.Objects.{object_of, list_of, whole}
use Rattle.desk_answers.specs.Responses.{Content, json, octets}
use Rattle.desk_answers.specs.Rows.{record_data, live_hold_data}
use Rattle.desk_answers.specs.Refusals.{refusal_status, refusal_data}
use Rattle.desk_answers.specs.declared.status.Status.{Status}
use Rattle.desk_answers.specs.declared.status.Status.TheVariants.{Success, Created}

abbrev pub status_of : Answer → Status
status_of (Class name years) = Success
status_of (Collection name) = Success
status_of (Deposited deposit) = Created
status_of (ListOf deposits) = Success
status_of (Record row) = Success
status_of (Holds holds) = Success
status_of (Bag bytes) = Success
status_of (File bytes) = Success
status_of (Audit deposit report) = Success
status_of (HoldPlaced hold) = Created
status_of (HoldReleased hold day) = Success
status_of (Destroyed deposit day) = Success
status_of (DueList day deposits) = Success
status_of (Refused refusal) = refusal_status refusal

-- the number of years, or null where it is permanent
abbrev pub years_data : Option ℕ → Data
years_data (Some count) = whole count
years_data None = null

abbrev pub class_data : List ℕ → Option ℕ → Data
class_data name years = object_of ((codes "class", string name) ∷ (codes "years", years_data years) ∷ [])

abbrev pub collection_data : List ℕ → Data
collection_data name = object_of ((codes "collection", string name) ∷ [])

abbrev pub deposit_data : ℕ → Data
deposit_data deposit = object_of ((codes "deposit", whole deposit) ∷ [])

abbrev pub list_data : List DepositRecord → Data
list_data rows = object_of ((codes "deposits", list_of (map record_data rows)) ∷ [])

abbrev pub holds_data : List LiveHold → Data
holds_data holds = object_of ((codes "holds", list_of (map live_hold_data holds)) ∷ [])

abbrev pub valid_data : ℕ → BagReport → Data
valid_data deposit report = object_of (
    (codes "bytes", whole report.bytes)
    ∷ (codes "deposit", whole deposit)
    ∷ (codes "files", whole report.files)
    ∷ (codes "manifests", whole report.manifests)
    ∷ (codes "valid", boolean true)
    ∷ (codes "version", string (version_text report.version))
    ∷ [])

abbrev pub invalid_data : ℕ → List ℕ → Data
invalid_data deposit fault = object_of ((codes "deposit", whole deposit) ∷ (codes "fault", string fault) ∷ (codes "valid", boolean false) ∷ [])

abbrev pub audit_data : ℕ → AuditReport → Data
audit_data deposit (Valid report) = valid_data deposit report
audit_data deposit (Invalid fault) = invalid_data deposit fault

abbrev pub hold_data : ℕ → Data
hold_data hold = object_of ((codes "hold", whole hold) ∷ [])

abbrev pub release_data : ℕ → Date → Data
release_data hold day = object_of ((codes "hold", whole hold) ∷ (codes "released", string (day_text day)) ∷ [])

abbrev pub destroyed_data : ℕ → Date → Data
destroyed_data deposit day = object_of ((codes "day", string (day_text day)) ∷ (codes "destroyed", whole deposit) ∷ [])

abbrev pub due_list_data : Date → List ℕ → Data
due_list_data day deposits = object_of ((codes "day", string (day_text day)) ∷ (codes "deposits", list_of (map whole deposits)) ∷ [])

abbrev pub content_of : Answer → Content
content_of (Class name years) = json (class_data name years)
content_of (Collection name) = json (collection_data name)
content_of (Deposited deposit) = json (deposit_data deposit)
content_of (ListOf deposits) = json (list_data deposits)
content_of (Record row) = json (record_data row)
content_of (Holds holds) = json (holds_data holds)
content_of (Bag bytes) = octets bytes
content_of (File bytes) = octets bytes
content_of (Audit deposit report) = json (audit_data deposit report)
content_of (HoldPlaced hold) = json (hold_data hold)
content_of (HoldReleased hold day) = json (release_data hold day)
content_of (Destroyed deposit day) = json (destroyed_data deposit day)
content_of (DueList day deposits) = json (due_list_data day deposits)
content_of (Refused refusal) = json (refusal_data refusal)
