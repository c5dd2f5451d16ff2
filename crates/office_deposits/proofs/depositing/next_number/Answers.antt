use Rattle.office_deposits.proofs.Common.{◌≡◌, pos, option_map, sym, ap, ◌∙◌, office_still, told_before, DepositRow, last_number, clean_first, IfOk-weaker, ◌>>=◌, full_after, number_after}
use Rattle.office_deposits.proofs.depositing.next_number.Goals as goal

pub returns-clause-reads : goal.returns-clause-reads
returns-clause-reads g c clean office =
    let limits = c.in_ok-limits.ensures in
    let last = c.in_ok-last.ensures in
    let early = clean_first last.inside.stays clean in
    let same = limits.same early office in
    let highest = told_before same (λ t. option_map pos c.in_ok-last.last ≡ last_number (λ (d : DepositRow). d.number) t.deposits) (last.found clean (office_still same office)) in
    let full = (λ i. limits.found early office i >>= λ limits. full_after limits.max_deposits (sym highest i)) ∙ c.number_after.ensures.full in
    let number = IfOk-weaker c.number_after.result _ _ (λ number is. ap number_after (sym highest) ∙ is) c.number_after.ensures.number in
    (last.same clean (office_still same office) ∙ same, (full, number))
