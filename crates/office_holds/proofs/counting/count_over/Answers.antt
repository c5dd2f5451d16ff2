use Rattle.office_holds.proofs.Common.{ap, sym, subst, w64, to_z-of_z, with_more_holds, with_more_holds_class, counted_over, held_target, changes_by}
use Rattle.office_access.specs.Serving.{Changes}
use Rattle.office_holds.proofs.counting.count_over.Goals as goal

pub returns-in-Collection-clause-changes : goal.returns-in-Collection-clause-changes
returns-in-Collection-clause-changes g c =
    let a = c.args in
    let add = c.add_holds.ensures in
    let changes = changes_by add.inside (with_more_holds c.in-Collection.name.now a.by) (rw (to_z-of_z w64 a.by c.ranges.by) at add.becomes) add.contents in
    subst (λ target. Changes g.S.Store a.tx.now.conn.now c.add_holds.new.tx.conn.now c.add_holds.result (counted_over target a.by)) (sym (ap held_target c.in-Collection.is)) changes

pub returns-in-Class-clause-changes : goal.returns-in-Class-clause-changes
returns-in-Class-clause-changes g c =
    let a = c.args in
    let add = c.add_holds_class.ensures in
    let changes = changes_by add.inside (with_more_holds_class c.in-Class.name.now a.by) (rw (to_z-of_z w64 a.by c.ranges.by) at add.becomes) add.contents in
    subst (λ target. Changes g.S.Store a.tx.now.conn.now c.add_holds_class.new.tx.conn.now c.add_holds_class.result (counted_over target a.by)) (sym (ap held_target c.in-Class.is)) changes
