use Rattle.desk_heads.proofs.EndLaws.{found_first, first_found, short_none, none_short, large_none, none_large}
use Rattle.desk_heads.proofs.laws.shortest_front.Goals as goal

pub returns-clause-found : goal.returns-clause-found
returns-clause-found c = λ b n. (found_first b n, first_found b n)

pub returns-clause-short : goal.returns-clause-short
returns-clause-short c = λ b. (short_none b, none_short b)

pub returns-clause-too_large : goal.returns-clause-too_large
returns-clause-too_large c = λ b. (large_none b, none_large b)
