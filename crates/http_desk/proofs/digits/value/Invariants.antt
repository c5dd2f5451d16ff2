use Rattle.http_desk.proofs.Common.{◌≡◌, ◌<◌, ◌^◌, take, digits_value}
use Rattle.http_desk.proofs.digits.value.Given as goal

abbrev pub invariant-loop-digit : goal.invariant-loop-digit
invariant-loop-digit l = (l.n ≡ digits_value 10 (take l.digit-index l.digits)) × (l.n < 10 ^ l.digit-index)
