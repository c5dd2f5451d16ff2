use Rattle.office_contents.proofs.Lemmas.{IfOk-weaker, is_new_content, clean_first}
use Rattle.office_contents.proofs.content.new_content.Goals as goal

pub returns-clause-stored : goal.returns-clause-stored
returns-clause-stored g c clean office =
    let added = c.in_ok-add_content.ensures.added (clean_first c.last_content.ensures.inside.stays clean) office in
    IfOk-weaker c.last_content.result _ _ (λ id h. is_new_content c.args.mark.now c.args.bytes.now _ _ _ id added h.0 h.1) (c.last_content.ensures.found clean added.keeps.becomes.office)
