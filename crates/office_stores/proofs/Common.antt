-- The names that several proofs of this crate cite, passed on from one place. Declares nothing.
pub use Rattle.office_access.specs.Pictures.{PicturesAt}
pub use Rattle.office_contents.specs.declared.version.TableVersion.{TableVersion}
pub use Rattle.office_engine.specs.Storing.{IsStoredBy, IsLeftAt, IsLeftOf, IsLegalAndStored}
pub use Rattle.office_history.specs.Histories.{History}
pub use Rattle.office_history.specs.Runs.{new_history}
pub use Rattle.office_stores.specs.Stores.{GoesOnFrom, IsClosedAfter, IsOfficeOver, IsOpenedFrom, IsUnhad, made_office}
pub use Rattle.office_stores.specs.Texts.{IsUnopenable, is_sought}
pub use Rattle.office_stores.specs.declared.fault.CommandFault.{CommandFault}
pub use Rattle.office_tables.specs.Found.{HoldsWhere}
pub use Rattle.sqlite.specs.Files.{AreFoundIn, file_state, HoldsDatabase, IsOpened, over_files}
pub use Rattle.sqlite.specs.Held.{Held, state}
pub use Rattle.sqlite.specs.Recovery.{Image}
pub use Rattle.sqlite.specs.Start.{FindsIn}
pub use Rattle.sqlite.specs.State.{HasCleanDisk, IsLive, Opens, State}
pub use Rattle.sqlite.specs.Store.{Ghosts}
pub use Rattle.sqlite.specs.declared.FileStore.{FileStore}
pub use Rattle.std.proofs.Common.{[], ap, ap₂, Bool, Err, false, IfErr, IfOk, inl, inr, IsErr, IsTrue, List, Ok, refl, Result, subst, sym, true, ◌∙◌, ◌∷◌, ◌≡◌, ◌≢◌}
