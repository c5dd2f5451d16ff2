use Rattle.desk_forms.proofs.Common.{◌≡◌, ◌++◌, map, option_map, raw_pairs_left, text_of, query_pairs, values_under}
use Rattle.std.specs.Option.{option_to_list}
use Rattle.std.specs.Cow.{cow_str_bytes}
use Rattle.desk_forms.proofs.query.find_value.Given as goal

abbrev pub invariant-pairs : goal.invariant-pairs
invariant-pairs l =
    option_to_list (option_map cow_str_bytes l.found) ++ values_under l.key (map (λ p. (text_of p.0, text_of p.1)) (raw_pairs_left l.name-iterator)) ≡ values_under l.key (query_pairs l.fn.query)
