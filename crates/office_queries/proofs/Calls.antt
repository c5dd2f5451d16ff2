-- One call after another inside a transaction: what `using` names in the sources where several lemmas are needed.
use Rattle.office_contents.proofs.InTurn.{failed_in_turn, in_turn, inside_as, inside_failed, inside_then, none_called, then_in_turn, turn_as, turn_failed, turn_then}

-- calls, and calls in turn after them
pub ruleset calls = (failed_in_turn, inside_as, inside_failed, inside_then, then_in_turn)

-- calls in turn alone
pub ruleset calls_in_turn = (in_turn, inside_as, none_called, turn_as, turn_failed, turn_then)
