use Rattle.office_deposits.proofs.Lemmas.{pos, state, file_of, with_file, with_content_of, rewrites_by}
use Rattle.office_contents.proofs.ContentLemmas.{put_once}
use Rattle.office_deposits.proofs.storing.add_file.Goals as goal

pub returns-clause-changes : goal.returns-clause-changes
returns-clause-changes g c =
    let file = file_of c.args.file.now in
    let put = c.in_ok-put_marked.ensures in
    let old = state g.S.Store c.args.tx.now.conn.now in
    let new = state g.S.Store c.put_marked.new.tx.conn.now in
    let contents = rw c.requires at put.contents in
    let references = rw c.requires at put.references in
    rewrites_by (with_file (record { deposit = pos c.args.number; path = file.path; content = file.content })) (λ t. with_content_of file) put.inside put.becomes contents references
    (λ clean office kept. put_once file.path file.content (pos c.args.number) old.now new.now (record { becomes = put.becomes clean office; new_path = put.new_path clean office; contents = contents clean office; references = references clean office; used = put.used clean office }) kept)
