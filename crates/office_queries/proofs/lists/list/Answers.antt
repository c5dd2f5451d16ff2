use Rattle.office_queries.proofs.Common.{rules, option_map, ◌≡◌, refl, ap, ◌∙◌, option_copied, Some, sym, state, beside, tables_of, visit_on, role_name, office_still, told_before, wanted_of, clean_first, ◌>>=◌, listed_record, listed_records, things_told, read_by}
use Rattle.office_core.specs.declared.answer.Answer.TheVariants as answers
use Rattle.office_core.specs.declared.request.Request.TheVariants as requests
use Rattle.office_queries.proofs.lists.list.Goals as goal

pub returns-clause-serves : goal.returns-clause-serves
returns-clause-serves g c clean office =
    let a = c.args in
    let t = tables_of (state g.S.Store a.tx.now.conn.now).now in
    let visit = visit_on a.day a.caller.now in
    let wanted = wanted_of a.collection a.class in
    let clean2 = clean_first c.shown_among.ensures.inside.stays clean in
    let clean1 = clean_first c.deposits_and_dues.ensures.inside.stays clean2 in
    let asker = c.in_ok-asker.asker in
    let asked = c.in_ok-asker.ensures.reads clean1 office in
    let still = office_still asked.0 office in
    let same = c.in_ok-rows.ensures.same clean2 still ∙ asked.0 in
    let rows_are = c.deref.ensures.value ∙ c.in_ok-rows.ensures.found clean2 still ∙ ap (λ db. beside (tables_of db).deposits (tables_of db).dues) asked.0 in
    let found = c.in_ok-told.ensures.reads clean (office_still same office) in
    let told = told_before same (λ t. things_told (listed_record t (role_name asker) asker.day wanted) c.deref.result.now ≡ Some c.in_ok-told.told.items) found.1 in
    let given : c.of.result ≡ c.in_ok-told.told.items = search rules in
    let listed : listed_records t visit wanted ≡ Some c.of.result =
    (λ i. asked.1.role i >>= λ role. things_told (listed_record t role (sym asked.1.on i) wanted) (sym rows_are i)) ∙ told ∙ ap Some (sym given) in
    (found.0 ∙ same, read_by visit (requests.List (option_copied a.collection) (option_copied a.class)) (answers.List c.of.result) refl (λ k. refl) office (found.0 ∙ same) refl (ap (option_map answers.List) listed) refl)
