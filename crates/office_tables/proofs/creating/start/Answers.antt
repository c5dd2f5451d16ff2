use Rattle.office_tables.proofs.Lemmas.{pos, on_ok, this_version, starts_office, starts_once}
use Rattle.office_tables.proofs.creating.start.Goals as goal

pub returns-clause-becomes : goal.returns-clause-becomes
returns-clause-becomes g c clean blank =
    let ran = rw (c.params-to_sql.ensures, c.params-to_sql-2.ensures, c.params-to_sql-3.ensures) at (c.change.ensures.ran clean) in
    on_ok c.change.result (λ count h. starts_office _ _ this_version (pos c.args.limits.max_deposits) (pos c.args.limits.max_holds) count blank h) ran

pub returns-clause-once : goal.returns-clause-once
returns-clause-once g c clean blank =
    let ran = rw (c.params-to_sql.ensures, c.params-to_sql-2.ensures, c.params-to_sql-3.ensures) at (c.change.ensures.ran clean) in
    on_ok c.change.result (λ count h. starts_once _ _ this_version (pos c.args.limits.max_deposits) (pos c.args.limits.max_holds) count blank h) ran
