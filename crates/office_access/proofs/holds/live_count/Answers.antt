use Rattle.office_access.proofs.Lemmas.{rules, ◌≡◌, ap, ◌∙◌, pos, length, sym, w64, Some, option_map, SFits, to_z-of_z, state, tables_of, count_read}
use Rattle.office_access.proofs.holds.live_count.Goals as goal

pub returns-in-Ok-clause-reads : goal.returns-in-Ok-clause-reads
returns-in-Ok-clause-reads g c clean office =
    let a = c.args in
    let t = tables_of (state g.S.Store a.tx.now.conn.now).now in
    let numbers = c.in_ok-holds.holds.items in
    let over = c.in_ok-holds.ensures.reads clean office in
    let fits : SFits w64 c.in-Ok.count = search rules in
    let counted : c.in-Ok.count ≡ pos (length numbers) = search rules in
    (over.0, ap Some (to_z-of_z w64 c.in-Ok.count fits ∙ counted) ∙ ap (option_map pos) (sym (count_read a.number a.collection.now a.class.now t numbers over.1.0 over.1.1)))
