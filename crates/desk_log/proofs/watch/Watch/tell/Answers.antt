use Rattle.desk_log.proofs.WatchingLemmas.{still_counted}
use Rattle.desk_log.proofs.watch.Watch.tell.Goals as goal

pub returns-in-Some-clause-counted : goal.returns-in-Some-clause-counted
returns-in-Some-clause-counted g c =
    rw (c.with_streak.ensures, c.after.ensures, c.streak_of-streak.ensures) (still_counted c.args.self c.in-Some.note.kind c.in-Some.note.outcome c.requires.counted)
