use Rattle.office_tables.proofs.Lemmas.{clean_first}
use Rattle.office_tables.proofs.moving.take_over.Goals as goal

pub returns-clause-ran : goal.returns-clause-ran
returns-clause-ran g c clean =
    let early = clean_first c.in_ok-change-2.ensures.inside.stays clean in (
      c.define.new.tx.conn.now,
      c.change.new.tx.conn.now,
      c.in_ok-change.field-0,
      c.in_ok-change-2.field-0,
      c.in_ok-define.ensures.grown (clean_first c.in_ok-change.ensures.inside.stays early),
      c.in_ok-change.ensures.ran early,
      c.in_ok-change-2.ensures.ran clean,
    )
