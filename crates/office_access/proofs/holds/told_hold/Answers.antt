use Rattle.office_access.proofs.Lemmas.{◌≡◌, Some, sym, ◌∙◌, ap, IfOk-weaker, Store, there_is, ◌>>=◌, hold_by}
use Rattle.office_access.proofs.holds.told_hold.Goals as goal

pub returns-clause-reads : goal.returns-clause-reads
returns-clause-reads g c clean office =
    let some : Some c.in_ok-row.row ≡ c.in_ok-found.found = there_is c.in_ok-found.found Store c.in_ok-row.row c.in_ok-row.ensures in
    IfOk-weaker c.hold_in.result _ _ (λ told says. (c.in_ok-found.ensures.same clean office, ap (λ o. o >>= λ row. hold_by row) (sym (some ∙ c.in_ok-found.ensures.found clean office)) ∙ says)) c.hold_in.ensures.reads
