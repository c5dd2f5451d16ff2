use Rattle.office_contents.proofs.Lemmas.{length, pos, rules, w64, ◌≡◌, to_z-of_z, IfOk-weaker, adds_content}
use Rattle.office_contents.proofs.content.add_content.Goals as goal

pub returns-clause-added : goal.returns-clause-added
returns-clause-added g c clean office =
    let size = to_z-of_z w64 c.in-Ok.size (search rules) in
    let sized : c.in-Ok.size ≡ pos (length c.args.bytes.now) = search rules in
    let ran = rw (c.params-to_sql.ensures, c.params-to_sql-2.ensures, c.params-to_sql-3.ensures, size, sized) at (c.change.ensures.ran clean) in
    IfOk-weaker c.change.result _ _ (λ count h. adds_content _ _ c.args.mark.now c.args.bytes.now count office h) ran
