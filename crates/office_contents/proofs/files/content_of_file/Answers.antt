use Rattle.office_contents.proofs.Lemmas.{◌≡◌, ℕ, ℤ, List, true, false, Option, Some, slice_get, option_map, pos, rules, sym, ap, subst, ◌∙◌, Row, Database, state, int_at, content_numbered, IsOffice, contents_of, content_referred, is_intact, reference_at, clean_first}
use Rattle.office_contents.specs.Contents.{IsAltered}
use Rattle.office_contents.proofs.Undone.{passed_on}
use Rattle.office_contents.proofs.files.content_of_file.Goals as goal

pub returns-in-Some-clause-intact : goal.returns-in-Some-clause-intact
returns-in-Some-clause-intact g c clean office checked =
    let old = (state g.S.Store c.args.tx.now.conn.now).now in
    let early = clean_first c.in_ok-content_in-in-Some.ensures.inside.stays clean in
    let same = (c.in_ok-rows.ensures.found early office).0 in
    let row : Row = c.in-Some.row.now in
    let first : slice_get c.in_ok-rows.rows.items 0 ≡ Some row = search rules in
    let reference : reference_at old (pos c.args.number) c.args.path.now ≡ Some (int_at row 0) = c.in_ok-rows.ensures.reference early office ∙ ap (option_map (λ row. int_at row 0)) first in
    let intact = c.in_ok-content_in-in-Some.ensures.intact clean (subst IsOffice (sym same) office) checked in
    ap (λ (id : Option ℤ). is_intact (content_referred id (contents_of old))) reference
    ∙ subst (λ (db : Database). is_intact (content_numbered (int_at row 0) (contents_of db)) ≡ true) same intact

module _ (old mid : Database) (n : ℤ) (path : List ℕ) (row : Row) (same : mid ≡ old) (reference : reference_at old n path ≡ Some (int_at row 0)) (it : IsAltered n path old) where
  -- the content that the row shows isn't intact
  shows_altered : is_intact (content_numbered (int_at row 0) (contents_of mid)) ≡ false
  shows_altered =
      ap (λ (db : Database). is_intact (content_numbered (int_at row 0) (contents_of db))) same
      ∙ sym (ap (λ (id : Option ℤ). is_intact (content_referred id (contents_of old))) reference)
      ∙ it.altered

pub returns-in_err-content_in-in-Some-clause-altered : goal.returns-in_err-content_in-in-Some-clause-altered
returns-in_err-content_in-in-Some-clause-altered g c checked clean office it =
    let old = (state g.S.Store c.args.tx.now.conn.now).now in
    let mid = (state g.S.Store c.rows_of_file.new.tx.conn.now).now in
    let early = clean_first c.in_err-content_in-in-Some.ensures.inside.stays clean in
    let same = (c.in_ok-rows.ensures.found early office).0 in
    let row : Row = c.in-Some.row.now in
    let first : slice_get c.in_ok-rows.rows.items 0 ≡ Some row = search rules in
    let reference : reference_at old (pos c.args.number) c.args.path.now ≡ Some (int_at row 0) = c.in_ok-rows.ensures.reference early office ∙ ap (option_map (λ row. int_at row 0)) first in
    let refused = c.in_err-content_in-in-Some.ensures.altered checked clean (subst IsOffice (sym same) office) (shows_altered old mid (pos c.args.number) c.args.path.now row same reference it) in
    passed_on _ c.from_residual-in_err-content_in-in-Some.result _ c.from_residual-in_err-content_in-in-Some.ensures.1 refused

pub returns-in-Some-clause-altered : goal.returns-in-Some-clause-altered
returns-in-Some-clause-altered g c checked clean office it =
    let old = (state g.S.Store c.args.tx.now.conn.now).now in
    let mid = (state g.S.Store c.rows_of_file.new.tx.conn.now).now in
    let early = clean_first c.in_ok-content_in-in-Some.ensures.inside.stays clean in
    let same = (c.in_ok-rows.ensures.found early office).0 in
    let row : Row = c.in-Some.row.now in
    let first : slice_get c.in_ok-rows.rows.items 0 ≡ Some row = search rules in
    let reference : reference_at old (pos c.args.number) c.args.path.now ≡ Some (int_at row 0) = c.in_ok-rows.ensures.reference early office ∙ ap (option_map (λ row. int_at row 0)) first in
    c.in_ok-content_in-in-Some.ensures.altered checked clean (subst IsOffice (sym same) office) (shows_altered old mid (pos c.args.number) c.args.path.now row same reference it)
