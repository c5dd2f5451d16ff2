use Rattle.office_contents.proofs.Lemmas.{List, [], ℤ, map, pos, rules, sym, subst, ◌∙◌, Database, HasCleanDisk, state, Row, int_at, IsOffice, AreFilesDropped, IsTidied, drop_contents, drop_once, drop_references, drop_used, finds_contents, clean_first}
use Rattle.office_contents.proofs.files.drop_files.Goals as goal

pub returns : goal.returns
returns g c =
    let old = state g.S.Store c.args.tx.now.conn.now in
    let mid = state g.S.Store c.drop_rows.new.tx.conn.now in
    let new = state g.S.Store c.drop_each_unused.new.tx.conn.now in
    let n = pos c.args.number in
    let ids : List ℤ = map (λ (row : Row). int_at row 0) c.in_ok-rows.rows.items in
    let early : HasCleanDisk new → HasCleanDisk mid = λ clean. clean_first c.drop_each_unused.ensures.inside.stays clean in
    let shown = λ (clean : HasCleanDisk new) (office : IsOffice old.now).
    finds_contents _ _ n c.in_ok-rows.rows.items office (rw c.params-to_sql.ensures at (c.in_ok-rows.ensures.shown (clean_first c.drop_rows.ensures.inside.stays (early clean)))) in
    let dropped : HasCleanDisk new → IsOffice old.now → AreFilesDropped n old.now mid.now = λ clean office.
    let same = (shown clean office).0 in
    subst (λ (db : Database). AreFilesDropped n db mid.now) same (c.in_ok-drop_rows.ensures.dropped (early clean) (subst IsOffice (sym same) office)) in
    let tidied : HasCleanDisk new → IsOffice old.now → IsTidied ids [] mid.now new.now = λ clean office.
    rw c.deref.ensures.value at (c.in_ok-drop_each_unused.ensures.tidied clean (dropped clean office).becomes.office) in
    record {
      inside = search rules;
      becomes = λ clean office. record {
        office = (tidied clean office).keeps.becomes.office;
        are = (tidied clean office).keeps.becomes.are ∙ (dropped clean office).becomes.are;
      };
      references = λ clean office. drop_references n ids old.now mid.now new.now (shown clean office).1 (dropped clean office) (tidied clean office);
      contents = λ clean office. drop_contents n ids old.now mid.now new.now (shown clean office).1 (dropped clean office) (tidied clean office) (shown clean office).2 (shown clean office).3;
      used = λ clean office. drop_used n ids old.now mid.now new.now (shown clean office).1 (dropped clean office) (tidied clean office);
      once = λ clean office. drop_once n ids old.now mid.now new.now (shown clean office).1 (dropped clean office) (tidied clean office);
    }
