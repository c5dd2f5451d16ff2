use Rattle.office_queries.proofs.Common.{◌≡◌, refl, ap, ◌∙◌, map, Some, sym, state, tables_of, audit_of, file_in, stored_files}
use Rattle.office_core.specs.declared.answer.Answer.TheVariants as answers
use Rattle.office_queries.proofs.audits.stored_audit.Goals as goal

pub returns-clause-reads : goal.returns-clause-reads
returns-clause-reads g c clean office =
    let number = c.args.number in
    let t = tables_of (state g.S.Store c.args.tx.now.conn.now).now in
    let report = c.in_ok-audit_of.field-0 in
    let verdict : report ≡ audit_of (stored_files number t) = c.in_ok-audit_of.ensures.report ∙ ap (λ rs. audit_of (map file_in rs)) (c.deref.ensures.value ∙ c.in_ok-rows.ensures.found clean office) in
    record { same = c.in_ok-rows.ensures.same clean office; answered = λ visit. ap (λ report. Some (answers.Audit number report)) (sym verdict); intact = refl; leaves = λ k. refl }
