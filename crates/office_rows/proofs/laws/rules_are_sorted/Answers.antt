use Rattle.std.proofs.Common.{ap}
use Rattle.office_rows.proofs.Order.{sorted_already, sorted_permutes, sorted_rises}
use Rattle.office_rows.proofs.laws.rules_are_sorted.Goals as goal

pub returns-clause-sorted : goal.returns-clause-sorted
returns-clause-sorted c = sorted_rises (λ r. r.place)

pub returns-clause-each : goal.returns-clause-each
returns-clause-each c = sorted_permutes (λ r. r.place)

pub returns-clause-rising : goal.returns-clause-rising
returns-clause-rising c = λ callers rules tables rise. ap (λ rows. record tables { callers = callers; rules = rows }) (sorted_already (λ r. r.place) rules rise)
