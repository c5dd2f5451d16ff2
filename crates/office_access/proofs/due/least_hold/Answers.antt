use Rattle.office_access.proofs.Lemmas.{rules, ◌≡◌, slice_get, None, Some, sym, inl, inr, true≢false, ◌∙◌, pos, first_of, none_of, office_still, told_before, clean_first, inside_after, inside_failed, state, tables_of, least_read}
use Rattle.office_by_rows.specs.Asking as by_rows
use Rattle.office_access.proofs.due.least_hold.Goals as goal

pub returns-in_err-told_hold-clause-inside : goal.returns-in_err-told_hold-clause-inside
returns-in_err-told_hold-clause-inside g c = inside_failed c.in_ok-holds.ensures.inside c.told_hold.ensures.inside _ (search rules) (search rules)

pub returns-clause-inside : goal.returns-clause-inside
returns-clause-inside g c = inside_after c.in_ok-holds.ensures.inside c.in_ok-told_hold.ensures.inside _ (search rules)

pub returns-clause-reads : goal.returns-clause-reads
returns-clause-reads g c clean office =
    let a = c.args in
    let t = tables_of (state g.S.Store a.tx.now.conn.now).now in
    let over = c.in_ok-holds.ensures.reads (clean_first c.told_hold.ensures.inside.stays clean) office in
    let told = c.in_ok-told_hold.ensures.reads clean (office_still over.0 office) in
    let first = first_of c.in-Some.least c.in_ok-holds.holds.items _ over.1.1 (search rules) in (
      told.0 ∙ over.0,
      least_read a.number a.collection.now a.class.now t c.in-Some.least first.0 c.in_ok-told_hold.field-0 over.1.0 first.1 (told_before over.0 (λ t. by_rows.told_hold t (pos c.in-Some.least) ≡ Some c.in_ok-told_hold.field-0) told.1),
    )

pub returns-in_default-clause-reads : goal.returns-in_default-clause-reads
returns-in_default-clause-reads g c clean office =
    let over = c.in_ok-holds.ensures.reads clean office in
    let first : None ≡ slice_get c.in_ok-holds.holds.items 0 = search rules in
    (over.0, none_of c.in_ok-holds.holds.items _ over.1.1 first)

pub returns-in_err-told_hold-clause-store : goal.returns-in_err-told_hold-clause-store
returns-in_err-told_hold-clause-store g c clean office lies =
    let over = c.in_ok-holds.ensures.reads (clean_first c.told_hold.ensures.inside.stays clean) office in
    let first = first_of c.in-Some.least c.in_ok-holds.holds.items _ over.1.1 (search rules) in
    absurd (elim lies [
      | inl outside ↦ true≢false (sym over.1.0 ∙ outside)
      | inr none ↦ (let some = sym none ∙ first.1 in cc)
    ])
