use Rattle.office_queries.proofs.Common.{rules, ◌≡◌, Some, None, sym, ap, ◌∙◌, if◌then◌else◌, IfErr-weaker, IfOk-weaker, description_of, has_names, record_by}
use Rattle.office_queries.specs.Records.{record_of}
use Rattle.office_queries.proofs.RecordByRow.{held, is_of_store, not_held, wants_memory}
use Rattle.office_queries.proofs.records.record_in.Goals.{In_ok-description}
use Rattle.office_queries.proofs.records.record_in.Goals as goal

-- the record that the row tells, whether or not there is memory for it
is_read : (c : In_ok-description) → record_by c.args.row.now c.args.due_row.now ≡ Some (record_of c.in_ok-figures.figures c.in_ok-description.description)
is_read c =
    let described = description_of c.args.row.now c.in_ok-figures.figures.closed in
    let whole = record_of c.in_ok-figures.figures described in
    let read = held (has_names c.args.row.now) described c.in_ok-description.description c.in_ok-description.ensures in
    c.in_ok-figures.ensures.reads ∙ ap (λ b. if b then Some whole else None) read.0 ∙ ap (λ description. Some (record_of c.in_ok-figures.figures description)) (sym read.1)

pub returns-clause-reads : goal.returns-clause-reads
returns-clause-reads c = IfOk-weaker c.owned_record.result _ _ (λ told is. is_read (goal.at.returns-clause-reads c).In_ok-description ∙ ap Some (sym is)) c.owned_record.ensures.record

pub returns-clause-failure : goal.returns-clause-failure
returns-clause-failure c =
    let at = (goal.at.returns-clause-failure c).In_ok-description in
    IfErr-weaker c.owned_record.result _ _ (wants_memory (record_by c.args.row.now c.args.due_row.now) (record_of c.in_ok-figures.figures c.in_ok-description.description) (is_read at)) c.owned_record.ensures.memory

pub returns-in_err-figures-clause-failure : goal.returns-in_err-figures-clause-failure
returns-in_err-figures-clause-failure c =
    let fails = is_of_store (record_by c.args.row.now c.args.due_row.now) c.in_err-figures.ensures.reads _ c.in_err-figures.ensures.store in
    search (rules, fails)

pub returns-in_err-description-clause-failure : goal.returns-in_err-description-clause-failure
returns-in_err-description-clause-failure c =
    let described = description_of c.args.row.now c.in_ok-figures.figures.closed in
    let read = not_held (has_names c.args.row.now) described _ c.in_err-description.ensures in
    let none : record_by c.args.row.now c.args.due_row.now ≡ None = c.in_ok-figures.ensures.reads ∙ ap (λ b. if b then Some (record_of c.in_ok-figures.figures described) else None) read.0 in
    let fails = is_of_store (record_by c.args.row.now c.args.due_row.now) none _ read.1 in
    search (rules, fails)
