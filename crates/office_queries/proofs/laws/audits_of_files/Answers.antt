use Rattle.office_queries.proofs.Common.{◌∙◌, ap, audit_report, report_or_text}
use Rattle.office_queries.proofs.AuditTold.{on_a_bag, on_a_fault}
use Rattle.office_queries.proofs.laws.audits_of_files.Goals as goal

pub returns-clause-valid : goal.returns-clause-valid
returns-clause-valid c = λ files version is valid. on_a_bag files ((c.one_list_fault.ensures.none files).1 is) ∙ ap (λ r. audit_report (report_or_text r)) (c.judged_bags.ensures.valid files version is valid)

pub returns-clause-no_bag : goal.returns-clause-no_bag
returns-clause-no_bag c = λ files fault is. on_a_fault files fault ((c.one_list_fault.ensures.first files fault).1 is)

pub returns-clause-invalid : goal.returns-clause-invalid
returns-clause-invalid c = λ files fault is first. on_a_bag files ((c.one_list_fault.ensures.none files).1 is) ∙ ap (λ r. audit_report (report_or_text r)) ((c.judged_bags.ensures.first files fault is).1 first)
