-- The names that several proofs of this crate cite, passed on from one place. Declares nothing.
pub use Rattle.office_core.specs.declared.answer.Answer.{Answer}
pub use Rattle.office_engine.specs.Storing.{after_item, IsStoredBy, IsStoredOfRun, IsLeftOf, IsLeftOfEither, IsLeftOfRun, LeavesEither, LeavesStored, LeavesRun}
pub use Rattle.office_history.specs.Answers.{after}
pub use Rattle.office_history.specs.Histories.{History}
pub use Rattle.office_history.specs.Runs.{Item}
pub use Rattle.office_rows.specs.Rows.{this_version}
pub use Rattle.sqlite.specs.Files.{file_state, image_of}
pub use Rattle.sqlite.specs.State.{HasCleanDisk, State}
pub use Rattle.sqlite.specs.Tree.{Trees}
pub use Rattle.std.proofs.lemmas.Result.{IfOk-weaker}
pub use Rattle.sqlite.specs.Recovery.{Image}
pub use Rattle.std.proofs.Common.{ap, arith, Err, IfOk, IfSome, inl, inr, IsTrue, List, Ok, OnErr, Option, Result, Some, subst, sym, ℤ, ◌∙◌, ◌≡◌, ◌⊎◌}
pub use Rattle.std.proofs.Math.Logic.{∥∥₁_map}
