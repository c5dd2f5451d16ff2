use Rattle.sqlite.specs.Files.{file_state}
use Rattle.test_stops.proofs.Reopened.{holds_left}
use Rattle.test_stops.proofs.stops.stop.Goals as goal

pub returns-clause-holds : goal.returns-clause-holds
returns-clause-holds g c clean image may =
    holds_left c.into_store.result (c.into_store.ensures.numbered clean) (c.into_store.ensures.sound clean) (file_state c.args.office).may_leave c.into_store.ensures.quiet.outcomes image may
