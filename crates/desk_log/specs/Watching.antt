-- What is logged as connections are served, one after the other.
use Rattle.std.specs.Prelude.{◌+◌, ◌++◌, ◌≤◌, ◌==◌, ◌||◌, ◌∷◌, [], ℕ, List, Bool, Option, None, Some, if◌then◌else◌}
use Rattle.desk_log.specs.Lines.{failed_line, success_line}
use Rattle.desk_log.specs.declared.note.OfficeNote.{OfficeNote}
use Rattle.desk_log.specs.declared.note.OfficeOutcome.{OfficeOutcome}
use Rattle.desk_log.specs.declared.note.OfficeOutcome.TheVariants.{Failed, Refused, Succeeded}
use Rattle.desk_log.specs.declared.note.OfficeFailure.TheVariants.{Store}
use Rattle.desk_log.specs.declared.note.RequestKind.{RequestKind}
use Rattle.desk_log.specs.declared.note.RequestKind.TheVariants.{Change, Reading}
use Rattle.desk_log.specs.declared.watch.Streak.{Streak}
use Rattle.desk_log.specs.declared.watch.Watch.{Watch}

-- ---- requests of one kind

-- how many failures in a row are logged: 1, 10, 100 and so on, as far as connections are counted
abbrev pub is_told : ℕ → Bool
is_told count =
    count == 1 || count == 10 || count == 100 || count == 1_000 || count == 10_000 || count == 100_000 || count == 1_000_000
    || count == 10_000_000 || count == 100_000_000 || count == 1_000_000_000

-- a failure makes the streak longer, a success ends it, and any other refusal leaves it
abbrev pub streak_after : Streak → OfficeOutcome → Streak
streak_after streak (Failed failure) = record { count = streak.count + 1; last = failure }
streak_after streak Refused = streak
streak_after streak Succeeded = record streak { count = 0 }

-- a streak is logged at the lengths above, and at its end
abbrev pub streak_lines : ℕ → RequestKind → Streak → OfficeOutcome → List (List ℕ)
streak_lines number kind streak (Failed failure) =
    if is_told (streak.count + 1) then failed_line number kind failure (streak.count + 1) ∷ [] else []
streak_lines number kind streak Refused = []
streak_lines number kind streak Succeeded =
    if streak.count == 0 then [] else success_line number kind streak.last streak.count ∷ []

-- ---- connections

abbrev pub no_streak : Streak
no_streak = record { count = 0; last = Store }

-- before the first connection
abbrev pub first_watch : Watch
first_watch = record { connections = 0; changes = no_streak; readings = no_streak }

abbrev pub streak_of : RequestKind → Watch → Streak
streak_of Change watch = watch.changes
streak_of Reading watch = watch.readings

abbrev pub with_streak : RequestKind → Streak → Watch → Watch
with_streak Change streak watch = record watch { changes = streak }
with_streak Reading streak watch = record watch { readings = streak }

abbrev pub one_more : Watch → Watch
one_more watch = record watch { connections = watch.connections + 1 }

-- after one more connection, of which this is noted
abbrev pub watch_after : Watch → Option OfficeNote → Watch
watch_after watch None = one_more watch
watch_after watch (Some note) = with_streak note.kind (streak_after (streak_of note.kind watch) note.outcome) (one_more watch)

-- no streak is longer than there were connections
pub record IsCounted (watch : Watch) : Type 0 where
  pub changes : watch.changes.count ≤ watch.connections
  pub readings : watch.readings.count ≤ watch.connections

-- the lines of it
abbrev pub lines_at : Watch → Option OfficeNote → List (List ℕ)
lines_at watch None = []
lines_at watch (Some note) = streak_lines (watch.connections + 1) note.kind (streak_of note.kind watch) note.outcome

-- one connection after the other
abbrev pub watch_from : Watch → List (Option OfficeNote) → Watch
watch_from watch [] = watch
watch_from watch (note ∷ notes) = watch_from (watch_after watch note) notes

abbrev pub lines_from : Watch → List (Option OfficeNote) → List (List ℕ)
lines_from watch [] = []
lines_from watch (note ∷ notes) = lines_at watch note ++ lines_from (watch_after watch note) notes
