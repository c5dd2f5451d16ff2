use Rattle.office_contents.proofs.Lemmas.{pos, w64, to_z-of_z, IfOk-weaker, adds_file}
use Rattle.office_contents.proofs.files.add_file.Goals as goal

pub returns-clause-added : goal.returns-clause-added
returns-clause-added g c clean office =
    let ran = rw (c.params-to_sql.ensures, c.params-to_sql-2.ensures, c.params-to_sql-3.ensures, to_z-of_z w64 c.args.id c.ranges.id) at (c.change.ensures.ran clean) in
    IfOk-weaker c.change.result _ _ (λ count h. adds_file _ _ (pos c.args.number) c.args.path.now c.args.id count office h) ran
