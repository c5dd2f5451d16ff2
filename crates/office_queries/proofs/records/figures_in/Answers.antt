use Rattle.office_queries.proofs.Common.{rules, ◌≡◌, ◌*◌, Some, None, max_content, max_files, record_by, days_of, count_of, count_up_to, due_of_number}
use Rattle.office_access.specs.Told.{told_days}
use Rattle.office_queries.proofs.RecordByRow.{record_of_parts}
use Rattle.office_queries.proofs.records.figures_in.Goals.{In_ok-files}
use Rattle.office_queries.proofs.records.figures_in.Goals as goal

-- what is read before the bytes are counted
read : (c : In_ok-files) → (count_of c.args.row.now.number ≡ Some c.row.inside.number) × (days_of c.args.row.now ≡ Some (told_days c.in_ok-days.days)) × (count_up_to max_files c.args.row.now.files ≡ Some c.in_ok-files.files)
read c = (search rules, search rules, search rules)

pub returns-in_err-bytes-clause-reads : goal.returns-in_err-bytes-clause-reads
returns-in_err-bytes-clause-reads c =
    let it = read (goal.at.returns-in_err-bytes-clause-reads c).In_ok-files in
    let none : count_up_to (max_files * max_content) c.args.row.now.bytes ≡ None = search rules in
    let nothing : record_by c.args.row.now c.args.due_row.now ≡ None = λ i. record_of_parts c.args.row.now (it.0 i) (it.1 i) (it.2 i) (none i) (due_of_number c.args.due_row.now.due) in
    search (rules, nothing)

pub returns-in_err-due-clause-reads : goal.returns-in_err-due-clause-reads
returns-in_err-due-clause-reads c =
    let it = read (goal.at.returns-in_err-due-clause-reads c).In_ok-files in
    let bytes : count_up_to (max_files * max_content) c.args.row.now.bytes ≡ Some c.in_ok-bytes.bytes = search rules in
    let none : due_of_number c.args.due_row.now.due ≡ None = search rules in
    let nothing : record_by c.args.row.now c.args.due_row.now ≡ None = λ i. record_of_parts c.args.row.now (it.0 i) (it.1 i) (it.2 i) (bytes i) (none i) in
    search (rules, nothing)

pub returns-clause-reads : goal.returns-clause-reads
returns-clause-reads c =
    let it = read (goal.at.returns-clause-reads c).In_ok-files in
    let bytes : count_up_to (max_files * max_content) c.args.row.now.bytes ≡ Some c.in_ok-bytes.bytes = search rules in
    let due : due_of_number c.args.due_row.now.due ≡ Some c.in_ok-due.due = search rules in
    λ i. record_of_parts c.args.row.now (it.0 i) (it.1 i) (it.2 i) (bytes i) (due i)
