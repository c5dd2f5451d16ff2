use Rattle.office_queries.proofs.Common.{rules, ◌≡◌, refl, ap, sym, ◌∙◌, Some, state, tables_of, ◌>>=◌, holds_in, told_holds}
use Rattle.office_core.specs.declared.answer.Answer.TheVariants as answers
use Rattle.office_queries.proofs.hold_lists.stored_holds.Goals as goal

pub returns-clause-reads : goal.returns-clause-reads
returns-clause-reads g c clean office there =
    let number = c.args.number in
    let row = c.args.row.now in
    let t = tables_of (state g.S.Store c.args.tx.now.conn.now).now in
    let collection : c.deref.result.now ≡ row.collection = search rules in
    let class : c.deref-2.result.now ≡ row.class = search rules in
    let given : c.of.result ≡ c.in_ok-told_holds.field-0.items = search rules in
    let says = c.in_ok-told_holds.ensures.reads clean office in
    record {
      same = says.0;
      answered = λ visit. ap (λ o. o >>= holds_in t number) there
          ∙ (λ i. told_holds t number (sym collection i) (sym class i) >>= λ told. Some (answers.Holds told))
          ∙ ap (λ o. o >>= λ told. Some (answers.Holds told)) says.1
          ∙ ap (λ told. Some (answers.Holds told)) (sym given);
      intact = refl;
      leaves = λ k. refl;
    }
