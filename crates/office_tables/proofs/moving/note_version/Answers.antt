use Rattle.office_tables.proofs.Lemmas.{on_ok, this_version}
use Rattle.office_tables.proofs.Versioned.{sets_version}
use Rattle.office_tables.proofs.moving.note_version.Goals as goal

pub returns-clause-noted : goal.returns-clause-noted
returns-clause-noted g c clean rows was =
    on_ok c.change.result (λ count h. sets_version _ _ this_version rows count was h) (rw (c.params-to_sql.ensures, c.params-to_sql-2.ensures) at (c.change.ensures.ran clean))
