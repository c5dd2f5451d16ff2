-- What is told of contents goes through an upgrade.
use Rattle.office_upgrade.proofs.Common.{◌≡◌, ℤ, List, map, refl, sym, ap, subst₂, ◌∙◌, Database, ContentRow, FileRow, AllRows, BecomesAt, renewed, tables_at, TableVersion, Third, Newest}
use Rattle.office_contents.specs.Tables.{contents_of}
use Rattle.office_contents.specs.Contents.{references_of, AreStoredOnce, StoresOnce, AreContents}

abbrev contents_in : AllRows → List ContentRow
contents_in rows = rows.contents

abbrev references_in : AllRows → List ℤ
references_in rows = rows.references

abbrev files_in : AllRows → List FileRow
files_in rows = rows.tables.files

-- an upgrade renews none of these
beside : (version : TableVersion) (rows : AllRows) → (contents_in (renewed version rows) ≡ contents_in rows) × (references_in (renewed version rows) ≡ references_in rows) × (files_in (renewed version rows) ≡ files_in rows)
beside Third rows = (refl, refl, refl)
beside _ rows = (refl, refl, refl)

module _ (version : TableVersion) (rows : AllRows) (old new : Database) (was : BecomesAt version old rows) (now : BecomesAt Newest new (renewed version rows)) where
  contents_are : contents_of old ≡ contents_of new
  contents_are = ap contents_in was.are ∙ sym (beside version rows).0 ∙ sym (ap contents_in now.are)

  references_are : references_of old ≡ references_of new
  references_are = ap references_in was.are ∙ sym (beside version rows).1 ∙ sym (ap references_in now.are)

  files_are : (tables_at version old).files ≡ (tables_at Newest new).files
  files_are = ap files_in was.are ∙ sym (beside version rows).2 ∙ sym (ap files_in now.are)

  pub stays_once : StoresOnce old → StoresOnce new
  stays_once once = subst₂ AreStoredOnce references_are contents_are once

  pub stays_held : AreContents (map (λ (f : FileRow). f.content) (tables_at version old).files) (contents_of old) → AreContents (map (λ (f : FileRow). f.content) (tables_at Newest new).files) (contents_of new)
  stays_held held = subst₂ AreContents (ap (map (λ (f : FileRow). f.content)) files_are) contents_are held
