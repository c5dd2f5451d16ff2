use Rattle.office_contents.proofs.Lemmas.{◌≡◌, List, pos, map, Some, true, sym, subst, AllByRecursion, list_all, IfOk-weaker, Database, HasCleanDisk, state, FileRow, file_at, IsOffice, tables_of, contents_of, ShowsFile, content_at, is_intact, references_of, shown_path, gathers_files, clean_first}
use Rattle.office_contents.proofs.FileLemmas.{none_altered}
use Rattle.office_contents.proofs.Undone.{fails_unless}
use Rattle.office_contents.proofs.files.read_files.Goals as goal

pub returns-clause-found : goal.returns-clause-found
returns-clause-found g c clean office =
    let old = state g.S.Store c.args.tx.now.conn.now in
    let mid = state g.S.Store c.rows_of_files.new.tx.conn.now in
    let clean_mid : HasCleanDisk mid = clean_first c.files_in.ensures.inside.stays clean in
    let paths = c.in_ok-rows.ensures.found clean_mid office in
    let n = pos c.args.number in
    let rows = c.in_ok-rows.rows.items in
    let each = subst (λ (db : Database). AllByRecursion (ShowsFile n db) rows) (sym paths.0) (c.in_ok-rows.ensures.each clean_mid office) in
    let found = rw c.deref.ensures.value at (c.files_in.ensures.found clean (subst IsOffice (sym paths.0) office)) in
    IfOk-weaker c.files_in.result _ _ (λ files h. gathers_files old.now office n rows files.items paths.1
    (subst (λ (db : Database). map Some files.items ≡ map (λ row. file_at n (shown_path row) (tables_of db).files) rows) paths.0 (h.1 each))) found

pub returns-clause-intact : goal.returns-clause-intact
returns-clause-intact g c clean office =
    let mid = state g.S.Store c.rows_of_files.new.tx.conn.now in
    let clean_mid : HasCleanDisk mid = clean_first c.files_in.ensures.inside.stays clean in
    let paths = c.in_ok-rows.ensures.found clean_mid office in
    let n = pos c.args.number in
    let each = subst (λ (db : Database). AllByRecursion (ShowsFile n db) c.in_ok-rows.rows.items) (sym paths.0) (c.in_ok-rows.ensures.each clean_mid office) in
    let intact = rw c.deref.ensures.value at (c.files_in.ensures.intact clean (subst IsOffice (sym paths.0) office)) in
    IfOk-weaker c.files_in.result _ _ (λ files h checked. subst (λ (db : Database). list_all (λ (f : FileRow). is_intact (content_at n f.path (tables_of db).files (references_of db) (contents_of db))) files.items ≡ true) paths.0 (h checked each)) intact

pub returns-clause-altered : goal.returns-clause-altered
returns-clause-altered g c checked clean office altered =
    let old = (state g.S.Store c.args.tx.now.conn.now).now in
    let n = pos c.args.number in
    let each = λ (files : List FileRow). list_all (λ (f : FileRow). is_intact (content_at n f.path (tables_of old).files (references_of old) (contents_of old))) files ≡ true in
    fails_unless c.files_in.result _ _ (λ files listed intact. none_altered old n (subst each listed (intact checked)) altered) (returns-clause-found g c clean office) (returns-clause-intact g c clean office)
