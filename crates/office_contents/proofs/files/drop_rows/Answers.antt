use Rattle.office_contents.proofs.Lemmas.{pos, IfOk-weaker, drops_files}
use Rattle.office_contents.proofs.files.drop_rows.Goals as goal

pub returns-clause-dropped : goal.returns-clause-dropped
returns-clause-dropped g c clean office =
    IfOk-weaker c.change.result _ _ (λ count h. drops_files _ _ (pos c.args.number) count office h) (rw c.params-to_sql.ensures at (c.change.ensures.ran clean))
