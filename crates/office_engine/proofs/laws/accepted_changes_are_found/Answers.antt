use Rattle.office_engine.proofs.FoundAfter.{found_exact, found_later}
use Rattle.office_engine.proofs.laws.accepted_changes_are_found.Goals as goal

pub returns : goal.returns
returns c = record { later = found_later; exact = found_exact }
