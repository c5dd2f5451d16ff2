use Rattle.office_holds.proofs.Lemmas.{◌≡◌, pos, Some, option_map, sym, ap, ◌∙◌, result_err, IfOk-weaker, clean_first, highest_hold, number_after, office_still, told_before, tables_before, full_told}
use Rattle.office_holds.proofs.placing.next_hold.Goals as goal

pub returns-clause-reads : goal.returns-clause-reads
returns-clause-reads g c clean office =
    let t = tables_before g.S.Store c.args.tx.now.conn in
    let early = clean_first c.last_hold.ensures.inside.stays clean in
    let same = c.in_ok-limits.ensures.same early office in
    let most = c.in_ok-limits.limits in
    let last = option_map pos c.in_ok-last.last in
    let told = told_before same (λ t. last ≡ highest_hold t) (c.in_ok-last.ensures.found clean (office_still same office)) in
    let full = full_told t (record { max_deposits = pos most.max_deposits; max_holds = pos most.max_holds }) (c.in_ok-limits.ensures.found early office) last told (result_err c.number_after.result) c.number_after.ensures.full in
    let number = IfOk-weaker c.number_after.result _ (λ number. number_after (highest_hold t) ≡ Some number) (λ number is. ap number_after (sym told) ∙ is) c.number_after.ensures.number in
    (c.in_ok-last.ensures.same clean (office_still same office) ∙ same, (full, number))
