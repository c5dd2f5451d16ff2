use Rattle.office_contents.proofs.Lemmas.{◌≡◌, List, ℕ, pos, rules, subst, sha256, state, FileRow, IsMarkedPut, put_once}
use Rattle.office_contents.proofs.files.put_file.Goals as goal

pub returns-clause-once : goal.returns-clause-once
returns-clause-once g c clean office kept =
    let old = (state g.S.Store c.args.tx.now.conn.now).now in
    let new = (state g.S.Store c.put_stored.new.tx.conn.now).now in
    let mark : c.digest-mark.result ≡ sha256 c.args.content.now = search rules in
    let file : FileRow = record { deposit = pos c.args.number; path = c.args.path.now; content = c.args.content.now } in
    let put = subst (λ (m : List ℕ). IsMarkedPut file m old new) mark (c.in_ok-put_stored.ensures.put clean office) in
    put_once c.args.path.now c.args.content.now (pos c.args.number) old new put kept
