use Rattle.office_contents.proofs.Lemmas.{w64, to_z-of_z, IfOk-weaker, removes_content}
use Rattle.office_contents.proofs.content.remove_content.Goals as goal

pub returns-clause-removed : goal.returns-clause-removed
returns-clause-removed g c clean office =
    let id = to_z-of_z w64 c.args.id c.ranges.id in
    let ran = rw (c.params-to_sql.ensures, id) at (c.change.ensures.ran clean) in
    IfOk-weaker c.change.result _ _ (λ count h. removes_content _ _ c.args.id count office h) ran
