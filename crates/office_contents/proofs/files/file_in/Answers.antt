use Rattle.office_contents.proofs.Common.{◌≡◌, List, ℕ, pos, string_bytes, Some, ap, sym, ◌∙◌, bytes, state, content_at, is_intact, references_of, contents_of, tables_of, shown_path}
use Rattle.office_contents.proofs.Undone.{passed_on}
use Rattle.office_contents.proofs.files.file_in.Goals as goal

pub returns-clause-found : goal.returns-clause-found
returns-clause-found g c clean office shows =
    let path : string_bytes c.in_ok-get.field-0 ≡ shown_path c.args.row.now = sym (ap bytes c.in_ok-get.ensures.ok.1) in
    let content = (c.in_ok-content.ensures.found clean office).1 in
    (λ i. Some (record { deposit = pos c.args.number; path = path i; content = content i })) ∙ sym shows.file

pub returns-clause-intact : goal.returns-clause-intact
returns-clause-intact g c clean office checked shows =
    let db = (state g.S.Store c.args.tx.now.conn.now).now in
    let path : string_bytes c.in_ok-get.field-0 ≡ shown_path c.args.row.now = sym (ap bytes c.in_ok-get.ensures.ok.1) in
    ap (λ (path : List ℕ). is_intact (content_at (pos c.args.number) path (tables_of db).files (references_of db) (contents_of db))) path
    ∙ ap is_intact shows.content
    ∙ c.in_ok-content.ensures.intact clean office checked

pub returns-in_err-content-clause-altered : goal.returns-in_err-content-clause-altered
returns-in_err-content-clause-altered g c checked clean office of =
    let refused = c.in_err-content.ensures.altered checked clean office (sym (ap is_intact of.0.content) ∙ of.1.altered) in
    passed_on _ c.from_residual.result _ c.from_residual.ensures.1 refused

pub returns-in_err-get-clause-altered : goal.returns-in_err-get-clause-altered
returns-in_err-get-clause-altered g c checked clean office of =
    absurd (c.in_ok-content.ensures.altered checked clean office (sym (ap is_intact of.0.content) ∙ of.1.altered))

pub returns-clause-altered : goal.returns-clause-altered
returns-clause-altered g c checked clean office of =
    c.in_ok-content.ensures.altered checked clean office (sym (ap is_intact of.0.content) ∙ of.1.altered)
