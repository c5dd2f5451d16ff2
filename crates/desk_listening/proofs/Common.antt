-- The names that several proofs of this crate cite, passed on from one place. Declares nothing.
pub use Rattle.desk_devices.specs.Devices.{device_of, failures_of}
pub use Rattle.desk_listening.specs.Accepting.{Takes, TakesAll}
pub use Rattle.desk_listening.specs.Listening.{answers_of, Connection, is_answered, is_served, IsAfter, IsAfterAll, IsOf, IsRun, items_of, lost, noted, refused, ReportsConnection, served}
pub use Rattle.desk_listening.specs.Logging.{lines_of, watch_of}
pub use Rattle.desk_listening.specs.Peers.{Drops, IsWritten, Leaves, Link, Talks, Treats, WritesBeginning}
pub use Rattle.desk_log.proofs.LoggingLemmas.{more_lines, no_line}
pub use Rattle.desk_log.proofs.WatchingLemmas.{connections_after, lines_after, one_after}
pub use Rattle.desk_log.specs.Logging.{IsLogged, Log, log_of}
pub use Rattle.desk_log.specs.Watching.{first_watch, IsCounted, lines_at, watch_after}
pub use Rattle.desk_log.specs.declared.note.OfficeNote.{OfficeNote}
pub use Rattle.desk_log.specs.declared.watch.Watch.{Watch}
pub use Rattle.std.proofs.Common.{◌+◌, ◌++◌, ◌-◌, ◌<◌, [], ap, append-nil, arith, Bool, cond, count_by, Err, false, IfOk, IfSome, inl, inr, length, length-append, length-take, List, map, None, Ok, OnErr, OnOk, Option, refl, Result, rules, Some, subst, sym, take, true, ℕ, ◌∙◌, ◌∷◌, ◌≡◌, ◌≤◌, ◌⊎◌}
pub use Rattle.std.proofs.lemmas.List.{length_push, map-append}
pub use Rattle.std.specs.Io.KnownBytes.{Appends, Consumes, IsAtEnd}
pub use mir.Val.{bool_byte}
