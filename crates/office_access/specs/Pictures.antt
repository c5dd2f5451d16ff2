-- When the database of an office holds what a history gives. Every contract of the office over its tables speaks of it by
-- this one name, so that later tables change this definition and no contract.
use Rattle.std.specs.Prelude.{◌≡◌}
use Rattle.sqlite.specs.Effect.{Database}
use Rattle.office_contents.specs.Versions.{IsOfficeAt, Newest, tables_at, version_number}
use Rattle.office_contents.specs.declared.version.TableVersion.{TableVersion}
use Rattle.office_contents.specs.Contents.{StoresOnce}
use Rattle.office_history.specs.Histories.{History}
use Rattle.office_history.specs.Pictures.{picture}

-- the tables of that version picture this history: they are an office's, their rows are those that the history gives, and no others, and
-- the contents of the files are stored once each
pub record PicturesAt (version : TableVersion) (h : History) (db : Database) : Type 0 where
  pub office : IsOfficeAt version db
  pub are : tables_at version db ≡ picture (version_number version) h
  pub once : StoresOnce db

-- the same of the tables of this version
abbrev pub Pictures : History → Database → Type 0
Pictures = PicturesAt Newest
