use Rattle.office_contents.proofs.Lemmas.{sym, subst, state, contents_of, StandOnce, stands_once}
use Rattle.office_contents.proofs.files.put_marked.Goals as goal

pub returns-clause-differ : goal.returns-clause-differ
returns-clause-differ g c clean office named once =
    let put = c.in_ok-put_stored.ensures.put clean office in
    subst StandOnce (sym put.contents) (stands_once c.args.mark.now c.args.content.now (contents_of (state g.S.Store c.args.tx.now.conn.now).now) named once)
