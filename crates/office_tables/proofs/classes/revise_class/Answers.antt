use Rattle.office_tables.proofs.Lemmas.{rules, w64, to_z-of_z, IfOk-weaker, HasCleanDisk, state, on_ok, revises_class_same, revises_class}
use Rattle.office_tables.proofs.classes.revise_class.Goals as goal

pub returns : goal.returns
returns g c =
    let ran = λ (clean : HasCleanDisk (state g.S.Store c.change.new.tx.conn.now)). rw (c.params-to_sql.ensures, c.params-to_sql-2.ensures, to_z-of_z w64 c.args.years c.ranges.years) at (c.change.ensures.ran clean) in
    record {
      inside = search rules;
      becomes = λ clean office. on_ok c.change.result (λ count h. (revises_class _ _ c.args.name.now c.args.years count office h).0) (ran clean);
      contents = λ clean office. on_ok c.change.result (λ count h. revises_class_same _ _ c.args.name.now c.args.years count office h) (ran clean);
      counted = λ clean office. IfOk-weaker c.change.result _ _ (λ count h. (revises_class _ _ c.args.name.now c.args.years count office h).1) (ran clean);
    }
