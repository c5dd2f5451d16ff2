use Rattle.office_contents.proofs.Lemmas.{pos, rules, w64, to_z-of_z, IfOk-weaker, is_marked_put, kept_office, clean_first}
use Rattle.office_contents.proofs.files.put_stored.Goals as goal

pub returns-clause-put : goal.returns-clause-put
returns-clause-put g c clean office =
    let stored = c.in_ok-id.ensures.stored (clean_first c.add_file.ensures.inside.stays clean) office in
    let still = kept_office c.args.mark.now c.args.content.now _ _ c.in_ok-id.id office stored in
    let added = rw (to_z-of_z w64 c.in_ok-id.id (search rules)) at (c.add_file.ensures.added clean still) in
    IfOk-weaker c.add_file.result _ _ (λ count h. is_marked_put (pos c.args.number) c.args.path.now c.args.mark.now c.args.content.now c.in_ok-id.id _ _ _ still stored h) added
