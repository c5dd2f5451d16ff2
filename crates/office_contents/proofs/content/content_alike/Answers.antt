use Rattle.office_contents.proofs.Common.{◌≡◌, Some, slice_get, option_map, rules, sym, ap, subst, ◌∙◌, w64, Row, to_z-of_z, state, int_at, contents_of, number_alike}
use Rattle.office_contents.proofs.content.content_alike.Goals as goal

pub returns-in-Some-clause-found : goal.returns-in-Some-clause-found
returns-in-Some-clause-found g c clean office =
    let alike = number_alike c.args.mark.now c.args.bytes.now (contents_of (state g.S.Store c.args.tx.now.conn.now).now) in
    let found = c.in_ok-rows.ensures.found clean office in
    let row : Row = c.in-Some.row.now in
    let first : slice_get c.in_ok-rows.rows.items 0 ≡ Some row = search rules in
    let shown : alike ≡ Some (int_at row 0) = found.1 ∙ ap (option_map (λ row. int_at row 0)) first in
    let number : c.in_ok-number_in-in-Some.field-0 ≡ int_at row 0 = c.in_ok-number_in-in-Some.ensures.shown in
    (found.0, subst (λ n. alike ≡ Some n) (sym number ∙ sym (to_z-of_z w64 c.in_ok-number_in-in-Some.field-0 (search rules))) shown)
