use Rattle.office_holds.proofs.Lemmas.{rules, ◌≡◌, w64, pos, sym, ◌∙◌, SFits, to_z-of_z, IfOk-weaker, due_numbered, Store, clean_first, inside_after, there_is, office_still, told_before, tables_before, counted_told}
use Rattle.office_holds.proofs.counting.count_after.Goals as goal

pub returns-clause-inside : goal.returns-clause-inside
returns-clause-inside g c = inside_after c.in_ok-limits.ensures.inside c.in_ok-found.ensures.inside _ (search rules)

pub returns-clause-reads : goal.returns-clause-reads
returns-clause-reads g c clean office =
    let a = c.args in
    let early = clean_first c.due_row.ensures.inside.stays clean in
    let same = c.in_ok-limits.ensures.same early office in
    let row = c.in_ok-row.row in
    let read = told_before same (λ t. c.in_ok-found.found ≡ due_numbered (pos a.number) t.dues) (c.in_ok-found.ensures.found clean (office_still same office)) in
    let there = sym read ∙ sym (there_is c.in_ok-found.found Store row c.in_ok-row.ensures) in
    let fits : SFits w64 c.row.inside.holds = search rules in
    let held : c.row.inside.holds ≡ row.holds = search rules in
    let most = c.in_ok-limits.limits in
    let result = rw (to_z-of_z w64 c.row.inside.holds fits, to_z-of_z w64 a.by c.ranges.by, held) at c.count_with.ensures.reads in
    IfOk-weaker c.count_with.result _ _ (λ count told. (c.in_ok-found.ensures.same clean (office_still same office) ∙ same, told))
    (counted_told (tables_before g.S.Store a.tx.now.conn) a.number a.by (record { max_deposits = pos most.max_deposits; max_holds = pos most.max_holds }) (c.in_ok-limits.ensures.found early office) row there c.count_with.result result)
