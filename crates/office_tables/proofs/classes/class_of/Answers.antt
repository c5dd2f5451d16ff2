use Rattle.office_tables.proofs.Lemmas.{rules, sym, ◌∙◌, IfOk-weaker, state, HasCleanDisk, finds_years, whatever}
use Rattle.office_tables.proofs.classes.class_of.Goals as goal

pub returns : goal.returns
returns g c =
    let shown = λ (clean : HasCleanDisk (state g.S.Store c.ask.new.tx.conn.now)). rw c.params-to_sql.ensures at (c.in_ok-rows.ensures.shown clean) in
    let read = rw c.deref.ensures.value at c.read_first.ensures.shown in
    record {
      inside = search rules;
      same = λ clean office. whatever c.read_first.result (finds_years _ _ c.args.name.now c.in_ok-rows.rows.items office (shown clean)).0;
      found = λ clean office. IfOk-weaker c.read_first.result _ _ (λ years h. h ∙ sym (finds_years _ _ c.args.name.now c.in_ok-rows.rows.items office (shown clean)).1) read;
    }
