-- The names that several proofs of this crate cite, passed on from one place. Declares nothing.
pub use Rattle.office_rows.specs.Rows.{ContentRow, FileRow, version_of}
pub use Rattle.office_contents.proofs.InTurn.{clean_first}
pub use Rattle.office_tables.proofs.OpenLemmas.{is_there, tells_version}
pub use Rattle.office_tables.specs.Moving.{AllRows, BecomesAt, renewed}
pub use Rattle.office_tables.specs.Opening.{HasVersion, HasSameTables, NotAnOffice, ShowsVersion}
pub use Rattle.office_contents.specs.Versions.{IsOfficeAt, Newest, tables_at, version_number}
pub use Rattle.office_contents.specs.declared.version.TableVersion.{TableVersion}
pub use Rattle.office_contents.specs.declared.version.TableVersion.TheVariants.{Third}
pub use Rattle.office_upgrade.specs.Upgrading.{GoesBack, HasUnknownVersion, IsLeftAt, IsOfficeOf, IsOlder, IsRenewed, IsUpgrade, HasSameOffice, LeavesOffice, NewestSurvives, OpensOlder, TakesUp, TellsKnown, TellsUnknown, TellsVersion, UpgradeLasts, Upgrades}
pub use Rattle.sqlite.proofs.StateLemmas.{survives_then, survives_weaker}
pub use Rattle.sqlite.specs.Effect.{Database, IsDatabase}
pub use Rattle.sqlite.specs.Held.{Held, state}
pub use Rattle.sqlite.specs.State.{HasCleanDisk, IsLive, State, Survives}
pub use Rattle.sqlite.specs.Tree.{Trees}
pub use Rattle.std.proofs.Common.{ap, arith, Bool, Err, false, inl, inr, IsTrue, List, map, None, Ok, OnOk, Option, pos, refl, Result, rules, Some, subst, subst₂, sym, true, w64, ℤ, ◌∙◌, ◌≡◌, ◌≢◌, ◌⊎◌}
