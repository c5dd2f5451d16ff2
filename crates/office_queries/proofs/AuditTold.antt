-- What an audit says of files.
use Rattle.office_queries.proofs.Common.{◌≡◌, List, Some, None, ap, list_fault, File, SetFault, report_on, audit_report, audit_of, audit_unless}
use Rattle.bag_text.specs.FaultTexts.{set_fault_text}
use Rattle.office_core.specs.declared.answer.AuditReport.TheVariants.{Invalid}

-- on a list that has no fault
pub on_a_bag : (files : List File) → list_fault files ≡ None → audit_of files ≡ audit_report (report_on files)
on_a_bag files none = ap (λ o. audit_unless o files) none

-- on a list that has one
pub on_a_fault : (files : List File) (fault : SetFault) → list_fault files ≡ Some fault → audit_of files ≡ Invalid (set_fault_text fault)
on_a_fault files fault is = ap (λ o. audit_unless o files) is
