use Rattle.office_tables.proofs.Lemmas.{rules, refl, subst, Ok, CallerRow, with_caller, with_callers, Writes, TableFault, puts_next}
use Rattle.office_tables.proofs.policy.add_callers.Goals as goal

pub loop-caller-preserved : goal.loop-caller-preserved
loop-caller-preserved g c =
    let added = c.in_ok-add_caller in
    puts_next with_caller with_callers (λ x xs t. refl) c.args.callers.now c.loop-caller.caller-index c.caller-item.result c.caller-item.is (search rules) c.loop-caller.invariant added.ensures.inside
    (subst (λ (y : CallerRow). Writes {E = TableFault} g.S.Store c.loop-caller.tx.conn.now c.add_caller.new.tx.conn.now (Ok added.field-0) (with_caller y)) c.caller.view_is
    (λ clean office. rw (c.deref.ensures, c.deref-in-loop-caller.ensures) at (added.ensures.becomes clean office))) added.ensures.contents
