use Rattle.std.proofs.Common.{◌≡◌, IsErrAnd, Option, Some, slice_get, option_map, rules, sym, ap, subst, ◌∙◌, w64}
use Rattle.std.proofs.lemmas.Int.{to_z-of_z}
use Rattle.std.proofs.lemmas.Result.{IfOk-weaker}
use Rattle.sqlite.specs.State.{HasCleanDisk}
use Rattle.sqlite.specs.Held.{state}
use Rattle.office_rows.specs.Rows.{ContentRow, content_numbered}
use Rattle.office_contents.specs.Calls.{IsOfStore}
use Rattle.office_contents.specs.Tables.{IsOffice, contents_of}
use Rattle.office_contents.proofs.ContentLemmas.{altered_shown, bytes_shown, intact_shown, marked_bytes, shown_marked}
use Rattle.office_contents.proofs.content.content_of.Given.{Over}
use Rattle.office_contents.proofs.content.content_of.Goals as goal

module _ (g : Over) (c : goal.After-drop-rows g) (clean : HasCleanDisk (state g.S.Store c.rows_of_content.new.tx.conn.now)) (office : IsOffice (state g.S.Store c.args.tx.now.conn.now).now) where
  abbrev asked : Option ContentRow
  asked = content_numbered c.args.id (contents_of (state g.S.Store c.args.tx.now.conn.now).now)

  -- nothing has changed, and the row shows the content
  shown : ((state g.S.Store c.rows_of_content.new.tx.conn.now).now ≡ (state g.S.Store c.args.tx.now.conn.now).now) × (option_map marked_bytes asked ≡ Some (shown_marked c.in-Some.row.now))
  shown =
      let found = rw (to_z-of_z w64 c.args.id c.ranges.id) at (c.in_ok-rows.ensures.found clean office) in
      let first : slice_get c.in_ok-rows.rows.items 0 ≡ Some c.in-Some.row.now = search rules in
      (found.0, found.1 ∙ ap (option_map shown_marked) first)

pub returns-in-Some-clause-found : goal.returns-in-Some-clause-found
returns-in-Some-clause-found g c clean office =
    let it = shown g c clean office in
    let bytes = bytes_shown (asked g c clean office) (Some c.in-Some.row.now) it.1 in
    IfOk-weaker c.content_shown.result _ _ (λ content is. (it.0, ap Some is ∙ sym bytes)) c.content_shown.ensures.shown

pub returns-in-Some-clause-intact : goal.returns-in-Some-clause-intact
returns-in-Some-clause-intact g c clean office =
    let it = shown g c clean office in
    IfOk-weaker c.content_shown.result _ _ (λ content is checked. intact_shown (asked g c clean office) c.in-Some.row.now it.1 (is checked)) c.content_shown.ensures.intact

pub returns-in-Some-clause-altered : goal.returns-in-Some-clause-altered
returns-in-Some-clause-altered g c checked clean office altered =
    let other = altered_shown (asked g c clean office) c.in-Some.row.now (shown g c clean office).1 altered in
    subst (λ result. IsErrAnd result (IsOfStore g.S.Store c.rows_of_content.new.tx.conn.now)) (sym (c.content_shown.ensures.altered checked other)) tt
