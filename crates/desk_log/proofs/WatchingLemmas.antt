-- One more connection.
use Rattle.std.proofs.Common.{◌≡◌, ◌+◌, ◌++◌, ◌∷◌, [], List, Option, Some, None, append-nil, append_assoc, ap, arith, refl, sym, ◌∙◌}
use Rattle.desk_log.specs.Watching.{IsCounted, lines_at, lines_from, one_more, streak_after, streak_of, watch_after, watch_from, with_streak}
use Rattle.desk_log.specs.declared.note.OfficeNote.{OfficeNote}
use Rattle.desk_log.specs.declared.note.OfficeOutcome.{OfficeOutcome}
use Rattle.desk_log.specs.declared.note.OfficeOutcome.TheVariants.{Failed}
use Rattle.desk_log.specs.declared.note.RequestKind.{RequestKind}
use Rattle.desk_log.specs.declared.note.RequestKind.TheVariants.{Change, Reading}
use Rattle.desk_log.specs.declared.watch.Watch.{Watch}

pub still_counted : (watch : Watch) (kind : RequestKind) (outcome : OfficeOutcome) → IsCounted watch → IsCounted (with_streak kind (streak_after (streak_of kind watch) outcome) (one_more watch))
still_counted watch Change (Failed failure) is = record { changes = omega arith; readings = omega arith }
still_counted watch Reading (Failed failure) is = record { changes = omega arith; readings = omega arith }
still_counted watch Change _ is = record { changes = omega arith; readings = omega arith }
still_counted watch Reading _ is = record { changes = omega arith; readings = omega arith }

pub one_after : (watch : Watch) (notes : List (Option OfficeNote)) (last : Option OfficeNote) → watch_from watch (notes ++ last ∷ []) ≡ watch_after (watch_from watch notes) last
one_after watch [] last = refl
one_after watch (note ∷ notes) last = one_after (watch_after watch note) notes last

pub lines_after : (watch : Watch) (notes : List (Option OfficeNote)) (last : Option OfficeNote)
    → lines_from watch (notes ++ last ∷ []) ≡ lines_from watch notes ++ lines_at (watch_from watch notes) last
lines_after watch [] last = append-nil (lines_at watch last)
lines_after watch (note ∷ notes) last = ap (λ t. lines_at watch note ++ t) (lines_after (watch_after watch note) notes last) ∙ sym (append_assoc (lines_at watch note) _ _)

pub connections_after : (watch : Watch) (note : Option OfficeNote) → (watch_after watch note).connections ≡ watch.connections + 1
connections_after watch None = refl
connections_after watch (Some note) = kept note.kind
  where
    kept : (kind : RequestKind) → (with_streak kind (streak_after (streak_of note.kind watch) note.outcome) (one_more watch)).connections ≡ watch.connections + 1
    kept Change = refl
    kept Reading = refl
