use Rattle.office_queries.proofs.Common.{rules, ◌≡◌, pos, refl, ap, sym, ◌∙◌, Some, state, due_numbered, tables_of, ◌>>=◌, record_by, record_in}
use Rattle.office_core.specs.declared.answer.Answer.TheVariants as answers
use Rattle.office_queries.proofs.records.stored_record.Goals as goal

pub returns-clause-reads : goal.returns-clause-reads
returns-clause-reads g c clean office there =
    let t = tables_of (state g.S.Store c.args.tx.now.conn.now).now in
    let row = c.args.row.now in
    let number : pos c.row.inside.number ≡ row.number = search rules in
    record {
      same = (c.in_ok-due_row.ensures.reads clean office).0;
      answered = λ visit. ap (λ o. o >>= record_in t) there
          ∙ ap (λ n. due_numbered n t.dues >>= λ due_row. record_by row due_row >>= λ told. Some (answers.Record told)) (sym number)
          ∙ ap (λ o. o >>= λ due_row. record_by row due_row >>= λ told. Some (answers.Record told)) (sym (c.in_ok-due_row.ensures.reads clean office).1)
          ∙ ap (λ o. o >>= λ told. Some (answers.Record told)) c.in_ok-record_in.ensures.reads;
      intact = refl;
      leaves = λ k. refl;
    }
