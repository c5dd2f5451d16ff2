use Rattle.office_contents.proofs.Lemmas.{◌≡◌, ◌∙◌, arith, rules, pos, take, Bool, true, Option, Some, sym, subst, AllByRecursion, take_all, All-from_recursion, Row, Database, state, list_all_push, FileRow, file_at, IsOffice, tables_of, contents_of, ShowsFile, content_at, is_intact, references_of, shown_path, finds_next, clean_first, turn_next}
use Rattle.office_contents.proofs.files.files_in.Goals as goal

pub loop-row-preserved : goal.loop-row-preserved
loop-row-preserved g c =
    let there = c.loop-row.invariant in
    let one = c.in_ok-file_in in
    let old = state g.S.Store c.args.tx.now.conn.now in
    let x : FileRow = one.field-0 in
    let intact_at : Database → FileRow → Bool = λ db f. is_intact (content_at (pos c.args.number) f.path (tables_of db).files (references_of db) (contents_of db)) in
    let shows : AllByRecursion (ShowsFile (pos c.args.number) old.now) c.args.rows.now → ShowsFile (pos c.args.number) old.now c.row-item.result = λ shown.
    subst (ShowsFile (pos c.args.number) old.now) (sym c.row-item.is) (All-from_recursion (ShowsFile (pos c.args.number) old.now) c.args.rows.now shown c.loop-row.row-index c.row-item.result (search rules)) in
    record {
      inside = turn_next there.inside one.ensures.inside;
      found = λ clean office.
          let before = there.found (clean_first one.ensures.inside.stays clean) office in
          let still = subst IsOffice (sym before.0) office in (
            one.ensures.same clean still ∙ before.0,
            λ shown.
                let find : Row → Option FileRow = λ row. file_at (pos c.args.number) (shown_path row) (tables_of old.now).files in
                let here = subst (λ (db : Database). ShowsFile (pos c.args.number) db c.row-item.result → Some x ≡ file_at (pos c.args.number) (shown_path c.row-item.result) (tables_of db).files) before.0 (one.ensures.found clean still) in
                rw c.in_ok-push.ensures.items (finds_next find c.args.rows.now c.loop-row.row-index c.row-item.result c.loop-row.files.items x c.row-item.is (search rules) (before.1 shown) (here (shows shown))),
          );
      intact = λ clean office checked shown.
          let early = clean_first one.ensures.inside.stays clean in
          let same = (there.found early office).0 in
          let here = subst (λ (db : Database). ShowsFile (pos c.args.number) db c.row-item.result → intact_at db x ≡ true) same (one.ensures.intact clean (subst IsOffice (sym same) office) checked) in
          rw c.in_ok-push.ensures.items (list_all_push (intact_at old.now) c.loop-row.files.items x (there.intact early office checked shown) (here (shows shown)));
    }

pub returns-clause-found : goal.returns-clause-found
returns-clause-found g c clean office =
    let there = c.loop-row.invariant.found clean office in
    let whole : take c.loop-row.row-index c.args.rows.now ≡ c.args.rows.now = take_all c.loop-row.row-index c.args.rows.now (omega (arith, c.loop-row-test.false)) in
    (there.0, λ shown. let found = there.1 shown in rw whole at found)

pub returns-clause-intact : goal.returns-clause-intact
returns-clause-intact g c = c.loop-row.invariant.intact
