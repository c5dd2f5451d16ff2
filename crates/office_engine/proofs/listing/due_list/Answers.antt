use Rattle.office_engine.proofs.Lemmas.{◌≡◌, ◌∙◌, Some, not, ap, sym, arith, rules, same_Some, IfOk-weaker, HasCleanDisk, state, due_list, Visit, visit_on, found_kept, under, shown_found}
use Rattle.office_by_rows.specs.Answers as by_rows
use Rattle.office_engine.proofs.listing.due_list.Goals as goal

pub returns-clause-listed : goal.returns-clause-listed
returns-clause-listed g c =
    let first = c.args.conn.now in
    let last = c.due_numbers-found.new.tx.conn.now in
    let end = c.rollback.new.self.0 in
    let begun = c.transaction-tx.ensures.begun in
    let same : end ≡ c.conn-1.given.0 = search rules in
    let settled = c.is_autocommit-is_settled.ensures.settled (c.is_autocommit-is_settled.ensures.value ∙ ap not c.requires.outside) in
    let visit : Visit = visit_on c.args.day c.args.caller.now in
    let finds =
    shown_found g.S.Store first last c.due_numbers-found.result (λ t numbers. by_rows.due_list t visit ≡ Some numbers.items) (λ h numbers. numbers.items ≡ due_list h c.args.day c.args.caller.now)
    (λ h legal numbers told. same_Some _ _ (sym told ∙ c.due_lists_are_exact.ensures h visit legal)) (rw begun at c.due_numbers-found.ensures.reads) in
    rw (← same) (λ (late : HasCleanDisk (state g.S.Store end)).
    let early : HasCleanDisk (state g.S.Store last) = omega (arith, late, c.rollback.ensures.survives.clean) in
    found_kept g.S.Store first last end (λ h numbers. numbers.items ≡ due_list h c.args.day c.args.caller.now) settled (rw begun at c.due_numbers-found.ensures.inside.stays) c.due_numbers-found.result
    (rw begun at c.due_numbers-found.ensures.inside.goes_on) finds early (c.rollback.ensures.undone late))

pub returns-clause-rows : goal.returns-clause-rows
returns-clause-rows g c =
    let last = c.due_numbers-found.new.tx.conn.now in
    let end = c.rollback.new.self.0 in
    let begun = c.transaction-tx.ensures.begun in
    let same : end ≡ c.conn-1.given.0 = search rules in
    rw (← same) (λ (late : HasCleanDisk (state g.S.Store end)).
    let early : HasCleanDisk (state g.S.Store last) = omega (arith, late, c.rollback.ensures.survives.clean) in
    let shown = rw begun at c.due_numbers-found.ensures.reads in
    under _ c.due_numbers-found.result (λ office. IfOk-weaker c.due_numbers-found.result _ _ (λ numbers told. told.1) (shown early office)))
