use Rattle.office_core.proofs.Lemmas.{decided_alike, decided_by_patterns, matches_by_patterns}
use Rattle.office_core.proofs.laws.rules_without_days.Goals as goal

pub returns : goal.returns
returns c = record { matches = matches_by_patterns; decides = decided_by_patterns; alike = decided_alike }
