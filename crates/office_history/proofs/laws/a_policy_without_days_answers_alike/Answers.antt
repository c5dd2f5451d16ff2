use Rattle.office_history.proofs.AnyDay.{denies_alike, answers_alike}
use Rattle.office_history.proofs.laws.a_policy_without_days_answers_alike.Goals as goal

pub returns-clause-denied : goal.returns-clause-denied
returns-clause-denied c = λ h day other none in_day in_other caller.
    denies_alike c.rules_without_days.ensures.alike h day other none in_day in_other caller

pub returns-clause-answered : goal.returns-clause-answered
returns-clause-answered c = λ h day other none in_day in_other caller.
    answers_alike h day other caller (denies_alike c.rules_without_days.ensures.alike h day other none in_day in_other caller)
