use Rattle.office_classes.proofs.Common.{◌≡◌, rules, IsTrue, Ok, List, refl, sym, ap, subst, ◌∙◌, ◌+◌, take, [], ◌∷◌, ◌++◌, on_ok_weaker, state, ClosingRow, GoesOnInTurn, tables_of, TableFault, none_called, turn_next, with_due_days, Changes, changed_as, changes_next, unchanged_by}
use Rattle.std.proofs.lemmas.List.{take_all, take_more}
use Rattle.sqlite.specs.declared.transaction.Transaction.{Transaction}
use Rattle.office_classes.proofs.DueDaysByRows.{begins, days_with_series, goes_on, with_series}
use Rattle.office_classes.proofs.classes.set_by_series.Goals.{then-not-follows+in_ok-set_series, else-not-follows}
use Rattle.office_classes.proofs.classes.set_by_series.Goals as goal

pub loop-next-init : goal.loop-next-init
loop-next-init g c = (begins [] _ c.args.row.now _ _ refl refl refl, none_called _ tt, λ clean office. unchanged_by (with_due_days c.args.years []) office refl refl)

pub loop-next-preserved : goal.loop-next-preserved
loop-next-preserved g c =
    let a = c.args in
    let inv = c.loop-next.invariant in
    let i = c.loop-next.next-index in
    let rows : List ClosingRow = a.row.now ∷ take i a.others.now in
    let next : ClosingRow = c.next-item.result in
    let more : rows ++ next ∷ [] ≡ a.row.now ∷ take (i + 1) a.others.now = ap (λ row. rows ++ row ∷ []) c.next-item.is ∙ ap (λ (xs : List ClosingRow). a.row.now ∷ xs) (sym (take_more a.others.now i next c.loop-next-test.true)) in
    let Done : List ClosingRow → Transaction g.row.S.Denot → Type 0 = λ before tx. GoesOnInTurn {T = Unit {0}} g.S.Store a.tx.now.conn tx.conn (Ok tt) × Changes {T = Unit {0}} {E = TableFault} g.S.Store a.tx.now.conn.now tx.conn.now (Ok tt) (with_due_days a.years before) in
    elim c.if-not-follows.branch [
      | then-not-follows+in_ok-set_series w ↦
          let set = w.in_ok-set_series.ensures in
          let done : Done rows c.if-not-follows.tx = subst (Done rows) (sym w.tx-is) (
            turn_next inv.1 set.inside,
            λ clean office. changed_as _ (with_due_days a.years rows) (days_with_series a.years rows _ _ inv.0 (tables_of (state g.S.Store a.tx.now.conn.now).now))
                (changes_next inv.1 set.inside (with_due_days a.years inv.0.before) (with_series a.years c.loop-next.first.now c.loop-next.last.now) inv.2 set.changes clean office),
          ) in
          (begins rows _ next _ _ more (ap (λ row. row.now) w.first-is) (ap (λ row. row.now) w.last-is), done.0, done.1)
      | else-not-follows w ↦
          let is : IsTrue c.follows.result = search rules in
          let done : Done inv.0.before c.if-not-follows.tx = subst (Done inv.0.before) (sym w.tx-is) (inv.1, inv.2) in
          (goes_on rows _ _ _ next _ _ inv.0 (c.follows.ensures.0 is) more (ap (λ row. row.now) w.first-is) (ap (λ row. row.now) w.last-is), done.0, done.1)
    ]

pub returns-clause-changes : goal.returns-clause-changes
returns-clause-changes g c clean office =
    let a = c.args in
    let old = state g.S.Store a.tx.now.conn.now in
    let inv = c.loop-next.invariant in
    let i = c.loop-next.next-index in
    let whole : a.row.now ∷ take i a.others.now ≡ a.row.now ∷ a.others.now = ap (λ (rows : List ClosingRow). a.row.now ∷ rows) (take_all i a.others.now c.loop-next-test.false) in
    on_ok_weaker c.set_series-2.result (changed_as _ (with_due_days a.years (a.row.now ∷ a.others.now)) (days_with_series a.years _ _ _ inv.0 (tables_of old.now) ∙ ap (λ rows. with_due_days a.years rows (tables_of old.now)) whole))
    (changes_next inv.1 c.set_series-2.ensures.inside (with_due_days a.years inv.0.before) (with_series a.years c.loop-next.first.now c.loop-next.last.now) inv.2 c.set_series-2.ensures.changes clean office)
