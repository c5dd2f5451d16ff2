use Rattle.office_history.proofs.Lemmas.{held_least, least_covers, least_is, refused_for_least}
use Rattle.office_history.proofs.laws.the_least_live_hold_is_named.Goals as goal

pub returns-clause-named : goal.returns-clause-named
returns-clause-named c = λ h day caller n k found there e.
    let least = held_least h day caller n k found there e in
    let is = least_covers h k n found.1 least in
    (is.0, is.1, λ other live cover. least_is h k other n found.1 least live cover)

pub returns-clause-refused : goal.returns-clause-refused
returns-clause-refused c = λ h day caller n k found there stays allowed live cover.
    refused_for_least h day caller n k found there stays allowed live cover
