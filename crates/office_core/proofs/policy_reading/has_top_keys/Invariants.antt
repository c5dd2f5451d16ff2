use Rattle.office_core.proofs.Common.{◌≡◌, list_all, members_view, entries, is_one_of, top_keys}
use Rattle.office_core.proofs.policy_reading.has_top_keys.Given as goal

abbrev pub invariant-loop-key : goal.invariant-loop-key
invariant-loop-key l =
    (goal.iterator-loop-key).can_next l.key-iterator
    × (goal.iterator-loop-key).is_finite l.key-iterator
    × (list_all (λ entry. is_one_of top_keys entry.0) (entries (members_view l.key-iterator)) ≡ list_all (λ entry. is_one_of top_keys entry.0) (entries (members_view l.tree.entries)))
