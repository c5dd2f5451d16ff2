-- The contents that are stored once are those of the files.
use Rattle.office_tables.proofs.Common.{◌≡◌, ℕ, ℤ, pos, List, [], ◌∷◌, map, length, unwrap_or, option_map, Option, Some, refl, sym, ap, subst, ◌∙◌, AllByRecursion, Row, Database, Has, all_has, has_mapped, mapped_has, int_at, FileRow, ContentRow, bytes_under, content_numbered, file_tree, IsOffice, tables_of, contents_of, file_in, StoresOnce, IsMarked, AreContents, references_of}
use Rattle.office_contents.proofs.ContentLemmas.{fetched, content_there, used_held}

abbrev bytes_of : ContentRow → List ℕ
bytes_of c = c.bytes

abbrev content_of : FileRow → List ℕ
content_of f = f.content

under : (cs : List ContentRow) (id : ℤ) (c : ContentRow) → content_numbered id cs ≡ Some c → bytes_under cs id ≡ c.bytes
under cs id c is = ap (λ (o : Option ContentRow). unwrap_or (option_map (λ c. c.bytes) o) []) is

sizes_are : (cs : List ContentRow) → AllByRecursion IsMarked cs → map (λ (c : ContentRow). c.size) cs ≡ map (λ (b : List ℕ). pos (length b)) (map bytes_of cs)
sizes_are [] marked = refl
sizes_are (c ∷ cs) marked = rw (marked.0.size) (ap (λ more. pos (length c.bytes) ∷ more) (sizes_are cs marked.1))

pub are_contents : (db : Database) → IsOffice db → StoresOnce db → AreContents (map content_of (tables_of db).files) (contents_of db)
are_contents db office kept =
    let cs = contents_of db in
    let decode : Row → FileRow = file_in cs in
    record {
      once = kept.once;
      marked = kept.marked;
      held = λ x there.
          let f = has_mapped content_of (tables_of db).files x there in
          let r = has_mapped decode (db.trees file_tree) f.0 f.1 in
          let c = fetched db office r.0 r.1 in
          let same : x ≡ c.0.bytes = f.2 ∙ ap content_of r.2 ∙ under cs (int_at r.0 3) c.0 c.1 in
          subst (Has (map bytes_of cs)) (sym same) (mapped_has bytes_of cs c.0 c.2);
      used = λ x there.
          let c = has_mapped bytes_of cs x there in
          let r = has_mapped (λ (row : Row). int_at row 3) (db.trees file_tree) c.0.id (all_has (λ (c : ContentRow). Has (references_of db) c.id) cs c.0 (used_held (references_of db) cs kept.used) c.1) in
          let same : content_of (decode r.0) ≡ x = ap (bytes_under cs) (sym r.2) ∙ under cs c.0.id c.0 (content_there db office c.0 c.1) ∙ sym c.2 in
          subst (Has (map content_of (tables_of db).files)) same (mapped_has content_of (tables_of db).files (decode r.0) (mapped_has decode (db.trees file_tree) r.0 r.1));
      sizes = sizes_are cs kept.marked;
    }
