use Rattle.fault_words.proofs.Common.{◌≡◌, members_view, entries, bad_caller}
use Rattle.fault_words.proofs.reason.bad_caller.Given as goal

abbrev pub invariant-loop-name : goal.invariant-loop-name
invariant-loop-name l =
    (goal.iterator-loop-name).can_next l.name-iterator
    × (goal.iterator-loop-name).is_finite l.name-iterator
    × (bad_caller (entries (members_view l.name-iterator)) ≡ bad_caller (entries (members_view l.callers.entries)))
