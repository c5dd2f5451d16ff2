use Rattle.office_classes.proofs.Common.{◌≡◌, map, take, caller_row}
use Rattle.office_classes.proofs.policy.caller_rows.Given as goal

abbrev pub invariant-loop-caller : goal.invariant-loop-caller
invariant-loop-caller l = l.rows.items ≡ map caller_row (take l.caller-index l.callers)
