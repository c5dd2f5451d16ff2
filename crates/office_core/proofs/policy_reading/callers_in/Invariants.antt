use Rattle.office_core.proofs.Common.{◌≡◌, ◌++◌, is_none, list_any, filter_map, members_view, entries, caller_in}
use Rattle.office_core.proofs.policy_reading.callers_in.Given as goal

abbrev pub invariant-loop-key : goal.invariant-loop-key
invariant-loop-key l =
    (goal.iterator-loop-key).can_next l.key-iterator
    × (goal.iterator-loop-key).is_finite l.key-iterator
    × (filter_map caller_in (entries (members_view l.table.entries)) ≡ l.callers.items ++ filter_map caller_in (entries (members_view l.key-iterator)))
    × (list_any (λ entry. is_none (caller_in entry)) (entries (members_view l.table.entries)) ≡ list_any (λ entry. is_none (caller_in entry)) (entries (members_view l.key-iterator)))
