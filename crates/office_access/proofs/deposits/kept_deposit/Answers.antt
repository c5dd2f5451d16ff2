use Rattle.office_access.proofs.Lemmas.{rules, ◌≡◌, sym, ◌∙◌, Some, None, [], ◌∷◌, ap, pos, IfOk-weaker, state, tables_of, visit_on, office_still, told_before, clean_first, inside_after, inside_failed, deposit_numbered, denial_in, denial_at, first_told, gone_refusal, of_deposit}
use Rattle.office_by_rows.specs.Refusals as by_rows
use Rattle.office_access.proofs.deposits.kept_deposit.Goals as goal

pub returns-in_err-denied-clause-inside : goal.returns-in_err-denied-clause-inside
returns-in_err-denied-clause-inside g c = inside_failed c.in_ok-deposit.ensures.inside c.denial.ensures.inside _ (search rules) (search rules)

pub returns-clause-inside : goal.returns-clause-inside
returns-clause-inside g c = inside_after c.in_ok-deposit.ensures.inside c.in_ok-denied.ensures.inside _ (search rules)

pub returns-in_default-clause-reads : goal.returns-in_default-clause-reads
returns-in_default-clause-reads g c clean office =
    let a = c.args in
    let t = tables_of (state g.S.Store a.tx.now.conn.now).now in
    let none : None ≡ c.in_ok-deposit.field-0 = search rules in
    (c.in_ok-deposit.ensures.same clean office, ap (λ o. first_told (of_deposit o (by_rows.kept_refusals t (visit_on a.day a.caller.now) a.action))) (sym (none ∙ c.in_ok-deposit.ensures.found clean office)))

pub returns-clause-reads : goal.returns-clause-reads
returns-clause-reads g c clean office =
    let a = c.args in
    let t = tables_of (state g.S.Store a.tx.now.conn.now).now in
    let visit = visit_on a.day a.caller.now in
    let row = c.in-Some.deposit in
    let early = clean_first c.denial.ensures.inside.stays clean in
    let same = c.in_ok-deposit.ensures.same early office in
    let there : Some row ≡ deposit_numbered (pos a.number) t.deposits = sym c.in-Some.is ∙ c.in_ok-deposit.ensures.found early office in
    let denied = c.in_ok-denied.ensures.reads clean (office_still same office) in
    let collection : c.deref.result.now ≡ row.collection = search rules in
    let class : c.deref-2.result.now ≡ row.class = search rules in
    let told = told_before same (λ t. denial_in t visit a.action (Some c.deref.result.now) (Some c.deref-2.result.now) ≡ Some c.in_ok-denied.denied) denied.1 in
    let told_of : denial_at t visit a.action row ≡ Some c.in_ok-denied.denied = rw (collection, class) at told in
    IfOk-weaker c.unless_refused.result _ _ (λ asked says. (
      denied.0 ∙ same,
      ap (λ o. first_told (of_deposit o (by_rows.kept_refusals t visit a.action))) (sym there) ∙ ap (λ o. first_told (o ∷ gone_refusal row ∷ [])) told_of ∙ says.0,
    )) c.unless_refused.ensures.reads

pub returns-clause-row : goal.returns-clause-row
returns-clause-row g c clean office =
    let a = c.args in
    let t = tables_of (state g.S.Store a.tx.now.conn.now).now in
    let row = c.in-Some.deposit in
    let early = clean_first c.denial.ensures.inside.stays clean in
    let same = c.in_ok-deposit.ensures.same early office in
    let there : Some row ≡ deposit_numbered (pos a.number) t.deposits = sym c.in-Some.is ∙ c.in_ok-deposit.ensures.found early office in
    let denied = c.in_ok-denied.ensures.reads clean (office_still same office) in
    IfOk-weaker c.unless_refused.result _ _ (λ asked is. (denied.0 ∙ same, IfOk-weaker asked _ _ (λ r alike. sym there ∙ ap Some (sym alike)) is.1)) c.unless_refused.ensures.reads
