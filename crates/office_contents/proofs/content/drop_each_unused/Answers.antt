use Rattle.office_contents.proofs.Lemmas.{◌≡◌, List, map, drop, slice_index_or as get_or, rules, sym, ap, subst, ◌+◌, ◌∷◌, ◌∙◌, w64, to_z-of_z, at_drop_more, Row, state, int_at, IsTidied, tidied_then, clean_first, turn_next}
use Rattle.office_contents.proofs.content.drop_each_unused.Goals as goal

pub loop-row-preserved : goal.loop-row-preserved
loop-row-preserved g c =
    let rows : List Row = c.args.rows.now in
    let i = c.loop-row.row-index in
    let ids = λ (all : List Row). map (λ (row : Row). int_at row 0) all in
    let rest = ids (drop (i + 1) rows) in
    let one = c.in_ok-drop_unused in
    let now = (state g.S.Store c.loop-row.tx.conn.now).now in
    let new = (state g.S.Store c.drop_unused.new.tx.conn.now).now in
    record {
      inside = turn_next c.loop-row.invariant.inside one.ensures.inside;
      tidied = λ clean office.
          let there = c.loop-row.invariant.tidied (clean_first one.ensures.inside.stays clean) office in
          let first : ids (drop i rows) ≡ ids (get_or rows i _ ∷ drop (i + 1) rows) = at_drop_more ids rows i _ (search rules) in
          let number : c.in_ok-id.id ≡ int_at (get_or rows i _) 0 = c.in_ok-id.ensures.shown ∙ ap (λ (row : Row). int_at row 0) c.row-item.is in
          let id = to_z-of_z w64 c.in_ok-id.id (search rules) in
          let step : IsTidied (c.in_ok-id.id ∷ rest) rest now new = rw id at (one.ensures.tidied clean there.keeps.becomes.office rest) in
          let next : IsTidied (ids (drop i rows)) rest now new = subst (λ all. IsTidied all rest now new) (ap (λ n. n ∷ rest) number ∙ sym first) step in
          tidied_then (ids rows) (ids (drop i rows)) rest (state g.S.Store c.args.tx.now.conn.now).now now new there next;
    }
