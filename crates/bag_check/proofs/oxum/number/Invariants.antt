use Rattle.bag_check.proofs.Common.{◌≡◌, ◌<◌, ◌^◌, true, drop, list_all, is_ascii_digit, number_from}
use Rattle.bag_check.proofs.oxum.number.Given as goal

abbrev pub invariant-loop-digit : goal.invariant-loop-digit
invariant-loop-digit l =
    (number_from l.number (drop l.digit-index l.digits) ≡ number_from 0 l.digits)
    × (list_all is_ascii_digit (drop l.digit-index l.digits) ≡ true)
    × (l.number < 10 ^ l.digit-index)
