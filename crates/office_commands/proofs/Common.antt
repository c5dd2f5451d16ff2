-- The names that several proofs of this crate cite, passed on from one place. Declares nothing.
pub use Rattle.desk_listening.specs.Listening.{Connection, IsAfterAll, lost, refused, served}
pub use Rattle.desk_listening.specs.declared.accepting.Served.{Served}
pub use Rattle.desk_serving.specs.Serving.{DeskRequest, IsAnswered, IsItemOf, ServesBytes}
pub use Rattle.http_desk.specs.Replaying.{AnswersEach, HasAnswered, HasDone, Moment, Stopped}
pub use Rattle.jiff.specs.Types.{Date}
pub use Rattle.office_access.specs.Pictures.{Pictures}
pub use Rattle.office_commands.specs.Deeds.{answers, AreDone, by_desk, by_office, Deed, deeds_of_connections, deeds_of_records, fails, installs, IsAnsweredFrom, IsDone, LeadOn, Leads, records_of_connections, texts_of_connections}
pub use Rattle.office_commands.specs.Stores.{InFile, InMemory, IsUnfound, LeadsInto, RunsInFile, RunsInMemory}
pub use Rattle.office_commands.specs.Tasks.{all_input, AreAnsweredBy, ComesOfAsk, ComesOfReplay, DoesTask, install_of, IsLogOf, IsPortFor, IsServedItsOwn, Listens, makes_office, ReplaysAfter, ReplaysInPart, Task}
pub use Rattle.office_commands.specs.Texts.{desk_failure, replay_failure}
pub use Rattle.office_stores.specs.Stores.{IsClosedAfter, IsOpenedFrom, IsUnhad, made_office}
pub use Rattle.office_stores.specs.Texts.{IsUnheard, IsUninstalled, IsUnsaid}
pub use Rattle.office_commands.specs.Traffic.{logged_traffic, LoggedTraffic, Said, said_in, Traffic, Upshot}
pub use Rattle.office_stores.specs.declared.done.Done.{Done}
pub use Rattle.office_stores.specs.declared.fault.Cause.TheVariants.{Output}
pub use Rattle.office_stores.specs.declared.fault.CommandFault.{CommandFault}
pub use Rattle.office_stores.specs.declared.fault.CommandFault.TheVariants.{Failed}
pub use Rattle.office_commands.specs.declared.work.Work.TheVariants.{Ask, Policy, Replay, Serve}
pub use Rattle.office_core.specs.declared.answer.Answer.{Answer}
pub use Rattle.office_engine.specs.Storing.{after_policy, IsStoredBy, IsLeftAt, IsLegalAndStored, HasSameTables}
pub use Rattle.office_history.specs.Histories.{History}
pub use Rattle.office_history.specs.Runs.{IsLegal, Item, new, Run}
pub use Rattle.office_tables.specs.Found.{HoldsWhere}
pub use Rattle.office_contents.specs.declared.version.TableVersion.{TableVersion}
pub use Rattle.sqlite.specs.Files.{file_state, image_of, over_files}
pub use Rattle.sqlite.specs.Held.{Held, state}
pub use Rattle.sqlite.specs.Recovery.{Image}
pub use Rattle.sqlite.specs.State.{HasCleanDisk, State, Survives}
pub use Rattle.sqlite.specs.Store.{Ghosts}
pub use Rattle.sqlite.specs.declared.FileStore.{FileStore}
pub use Rattle.std.proofs.Common.{◌+◌, ◌<◌, [], ap, arith, Bool, Bor, codes, Err, false, IfErr, IfOk, IfSome, inl, inr, length, List, None, Ok, OnOk, Option, refl, Result, rules, Some, subst, sym, take, true, ℕ, ◌∙◌, ◌∷◌, ◌≡◌, ◌≢◌, ◌≤◌, ◌⊎◌}
pub use Rattle.std.proofs.KnownBytes.{Appends-kept, Appends-nil}
pub use Rattle.std.specs.Io.KnownBytes.{Appends, Consumes, IsAtEnd, Keeps}
