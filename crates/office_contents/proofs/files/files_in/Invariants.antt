use Rattle.office_contents.proofs.Common.{Ok, ◌≡◌, map, take, pos, Some, true, AllByRecursion, list_all, file_at, shown_path, GoesOnInTurn, Does, ShowsFile, content_at, is_intact, references_of, tables_of, contents_of, TableFault}
use Rattle.office_contents.proofs.files.files_in.Given as goal

abbrev pub invariant-loop-row : goal.invariant-loop-row
invariant-loop-row g l = record {
  inside : GoesOnInTurn {T = Unit {0}} g.S.Store l.fn.tx.conn l.tx.conn (Ok tt);
  found : Does {E = TableFault} g.S.Store l.fn.tx.conn.now l.tx.conn.now (Ok l.files) (λ old new files.
      (new ≡ old) × (AllByRecursion (ShowsFile (pos l.number) old) l.rows → map Some files.items ≡ map (λ row. file_at (pos l.number) (shown_path row) (tables_of old).files) (take l.row-index l.rows)));
  intact : Does {E = TableFault} g.S.Store l.fn.tx.conn.now l.tx.conn.now (Ok l.files) (λ old _ files.
      l.checked ≡ true → AllByRecursion (ShowsFile (pos l.number) old) l.rows → list_all (λ f. is_intact (content_at (pos l.number) f.path (tables_of old).files (references_of old) (contents_of old))) files.items ≡ true);
}
