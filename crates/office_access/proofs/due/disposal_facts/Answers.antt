use Rattle.office_access.proofs.Lemmas.{rules, ◌≡◌, sym, ◌∙◌, pos, Some, w64, subst, SFits, of_z, to_z, to_z-of_z, state, due_numbered, tables_of, office_still, told_before, clean_first, failed_before, failed_in_turn, inside_as, inside_failed, inside_then, then_in_turn, Store, due_of_number, counted_hold_in, role_name, facts_told, same_count, some_read}
use Rattle.office_access.specs.Told.{told_days}
use Rattle.office_access.proofs.due.disposal_facts.Goals as goal

pub returns-in_err-due_row-clause-inside : goal.returns-in_err-due_row-clause-inside
returns-in_err-due_row-clause-inside g c = inside_failed c.in_ok-decision.ensures.inside c.stored_due_row.ensures.inside _ (search rules) (search rules)

pub returns-in_err-due-clause-inside : goal.returns-in_err-due-clause-inside
returns-in_err-due-clause-inside g c = inside_failed c.in_ok-decision.ensures.inside c.stored_due_row.ensures.inside _ (search rules) (search rules)

pub returns-in_err-hold-clause-inside : goal.returns-in_err-hold-clause-inside
returns-in_err-hold-clause-inside g c = failed_in_turn (inside_then c.in_ok-decision.ensures.inside c.in_ok-due_row.ensures.inside) c.counted_hold.ensures.inside _ (search rules) (search rules)

pub returns-clause-inside : goal.returns-clause-inside
returns-clause-inside g c = inside_as (then_in_turn (inside_then c.in_ok-decision.ensures.inside c.in_ok-due_row.ensures.inside) c.in_ok-hold.ensures.inside) _ (search rules)

pub returns-in_err-days-clause-inside : goal.returns-in_err-days-clause-inside
returns-in_err-days-clause-inside g c = failed_before _ (search rules) (search rules)

pub returns-clause-reads : goal.returns-clause-reads
returns-clause-reads g c clean office =
    let a = c.args in
    let t = tables_of (state g.S.Store a.tx.now.conn.now).now in
    let before_last = clean_first c.counted_hold.ensures.inside.stays clean in
    let early = clean_first c.stored_due_row.ensures.inside.stays before_last in
    let decided = c.in_ok-decision.ensures.reads early office in
    let same1 = decided.0 in
    let read = c.in_ok-due_row.ensures.reads before_last (office_still same1 office) in
    let same2 = read.0 ∙ same1 in
    let row = a.row.now in
    let collection : c.deref.result.now ≡ row.collection = search rules in
    let class : c.deref-2.result.now ≡ row.class = search rules in
    let covered : c.deref-3.result.now ≡ row.collection = search rules in
    let covered_of : c.deref-4.result.now ≡ row.class = search rules in
    let fits : SFits w64 c.due_row.inside.holds = search rules in
    let counts : c.due_row.inside.holds ≡ c.in_ok-due_row.due_row.holds = search rules in
    let due_row = c.in_ok-due_row.due_row in
    let there = told_before same1 (λ t. Some due_row ≡ due_numbered (pos c.row.inside.number) t.dues) read.1 in
    let held = c.in_ok-hold.ensures.reads clean (office_still same2 office) in
    let hold = told_before same2 (λ t. counted_hold_in t (to_z w64 (of_z w64 c.due_row.inside.holds)) c.row.inside.number c.deref-3.result.now c.deref-4.result.now ≡ Some c.in_ok-hold.hold) held.1 in
    let due : due_of_number due_row.due ≡ Some c.in_ok-due.due = some_read (due_of_number due_row.due) Store c.in_ok-due.due (search rules) in (
      held.0 ∙ same2,
      λ n numbered.
          let number : c.row.inside.number ≡ n = same_count c.row.inside.number n ((search rules) ∙ sym numbered) in
          facts_told t (role_name a.asker.now) a.asker.now.day n row (told_days c.in_ok-days.days) c.in_ok-decision.decision due_row c.in_ok-due.due c.in_ok-hold.hold
          c.in_ok-days.ensures.reads
          (rw (collection, class) at decided.1)
          (subst (λ m. due_numbered (pos m) t.dues ≡ Some due_row) number (sym there))
          due
          (rw (to_z-of_z w64 c.due_row.inside.holds fits ∙ counts, number, covered, covered_of) at hold),
    )
