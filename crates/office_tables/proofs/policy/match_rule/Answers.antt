use Rattle.office_tables.proofs.Lemmas.{rules, sym, w64, ◌∙◌, to_z-of_z, IfOk-weaker, state, HasCleanDisk, whatever}
use Rattle.office_tables.proofs.MatchLemmas.{finds_match}
use Rattle.office_tables.proofs.policy.match_rule.Goals as goal

pub returns : goal.returns
returns g c =
    let a = c.args in
    let shown = λ (clean : HasCleanDisk (state g.S.Store c.ask.new.tx.conn.now)).
    rw (c.params-to_sql.ensures, c.params-to_sql-2.ensures, c.params-to_sql-3.ensures, c.params-to_sql-4.ensures, c.params-to_sql-5.ensures, to_z-of_z w64 a.day c.ranges.day) at (c.in_ok-rows.ensures.shown clean) in
    let read = rw c.deref.ensures.value at c.read_first.ensures.shown in
    record {
      inside = search rules;
      same = λ clean office. whatever c.read_first.result (finds_match _ _ a.role.now a.action.now a.collection.now a.class.now a.day c.in_ok-rows.rows.items office (shown clean)).0;
      found = λ clean office. IfOk-weaker c.read_first.result _ _ (λ rule h. h ∙ sym (finds_match _ _ a.role.now a.action.now a.collection.now a.class.now a.day c.in_ok-rows.rows.items office (shown clean)).1) read;
    }
