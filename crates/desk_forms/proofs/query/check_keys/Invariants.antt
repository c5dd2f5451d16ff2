use Rattle.desk_forms.proofs.Common.{◌≡◌, map, raw_pairs_left, text_of, query_pairs, has_only}
use Rattle.desk_forms.proofs.query.check_keys.Given as goal

-- the pairs that are left decide
abbrev pub invariant-pairs : goal.invariant-pairs
invariant-pairs l =
    has_only (map (λ key. key.now) l.keys) (map (λ p. (text_of p.0, text_of p.1)) (raw_pairs_left l.key-iterator)) ≡ has_only (map (λ key. key.now) l.keys) (query_pairs l.fn.query)
