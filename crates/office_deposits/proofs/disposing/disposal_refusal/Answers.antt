use Rattle.office_deposits.proofs.Lemmas.{rules, ◌≡◌, pos, ap, sym, ◌∙◌, [], ◌∷◌, Some, None, state, refusal_of, deposit_numbered, tables_of, visit_on, role_name, office_still, told_before, clean_first, ◌>>=◌, role_in, disposal_facts, disposal_refusal, first_told, of_deposit, one_told, row_number}
use Rattle.office_core.specs.Verdicts.{verdict_of}
use Rattle.office_deposits.proofs.disposing.disposal_refusal.Goals as goal

pub returns-in_default-clause-reads : goal.returns-in_default-clause-reads
returns-in_default-clause-reads g c clean office =
    let a = c.args in
    let t = tables_of (state g.S.Store a.tx.now.conn.now).now in
    let none : None ≡ c.in_ok-deposit.field-0 = search rules in
    (c.in_ok-deposit.ensures.same clean office, ap (λ found. first_told (of_deposit found (λ row. disposal_refusal t (visit_on a.day a.caller.now) a.number row ∷ []))) (sym (none ∙ c.in_ok-deposit.ensures.found clean office)))

pub returns-clause-reads : goal.returns-clause-reads
returns-clause-reads g c clean office =
    let a = c.args in
    let t = tables_of (state g.S.Store a.tx.now.conn.now).now in
    let visit = visit_on a.day a.caller.now in
    let row = c.in-Some.deposit in
    let asker = c.in_ok-asker.asker in
    let clean2 = clean_first c.disposal_facts.ensures.inside.stays clean in
    let clean1 = clean_first c.read.ensures.inside.stays clean2 in
    let same1 = c.in_ok-deposit.ensures.same clean1 office in
    let asked = c.in_ok-asker.ensures.reads clean2 (office_still same1 office) in
    let same2 = asked.0 ∙ same1 in
    let known = c.in_ok-facts.ensures.reads clean (office_still same2 office) in
    let found : Some row ≡ deposit_numbered (pos a.number) t.deposits = sym c.in-Some.is ∙ c.in_ok-deposit.ensures.found clean1 office in
    let role = told_before same1 (λ t. role_in t a.caller.now ≡ Some (role_name asker)) asked.1.role in
    let facts = told_before same2 (λ t. disposal_facts t (role_name asker) asker.day a.number row ≡ Some c.in_ok-facts.facts) (known.1 a.number (row_number t a.number row found)) in
    let told : refusal_of (verdict_of c.in_ok-facts.facts a.day) ≡ c.refusal_of.result = search rules in
    let refused : disposal_refusal t visit a.number row ≡ Some c.refusal_of.result =
    (λ i. role i >>= λ role. disposal_facts t role (sym asked.1.on i) a.number row >>= λ facts. Some (refusal_of (verdict_of facts a.day)))
    ∙ (λ i. facts i >>= λ facts. Some (refusal_of (verdict_of facts a.day))) ∙ ap Some told in
    (known.0 ∙ same2, ap (λ found. first_told (of_deposit found (λ row. disposal_refusal t visit a.number row ∷ []))) (sym found) ∙ ap (λ one. first_told (one ∷ [])) refused ∙ one_told c.refusal_of.result)
