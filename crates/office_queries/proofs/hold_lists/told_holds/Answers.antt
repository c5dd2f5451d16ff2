use Rattle.office_queries.proofs.Common.{ap, ◌∙◌, map, pos, ◌≡◌, Some, None, if◌then◌else◌, sym, IfOk-weaker, state, tables_of, office_still, told_before, clean_first, told_hold, all_told}
use Rattle.office_rows.specs.Rows as rows
use Rattle.office_queries.proofs.hold_lists.told_holds.Goals as goal

pub returns-clause-reads : goal.returns-clause-reads
returns-clause-reads g c clean office =
    let a = c.args in
    let t = tables_of (state g.S.Store a.tx.now.conn.now).now in
    let over = c.in_ok-numbers.ensures.reads (clean_first c.told_each.ensures.inside.stays clean) office in
    let numbers = ap (map pos) c.deref.ensures.value ∙ over.1.1 in
    IfOk-weaker c.told_each.result _ _ (λ told says. (
      says.0 ∙ over.0,
      ap (λ b. if b then all_told (told_hold t) (rows.live_holds (pos a.number) a.collection.now a.class.now t) else None) over.1.0
          ∙ ap (all_told (told_hold t)) (sym numbers)
          ∙ told_before over.0 (λ t. all_told (told_hold t) (map pos c.deref.result.now) ≡ Some told.items) says.1,
    ))
    (c.told_each.ensures.reads clean (office_still over.0 office))
