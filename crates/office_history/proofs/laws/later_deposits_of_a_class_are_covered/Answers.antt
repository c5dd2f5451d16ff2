use Rattle.office_history.proofs.Lemmas.{◌∙◌, ap, has_contains, HoldClass, after, hold_numbered, live_holds, covers_class, among_live, class_hold, class_hold_stays}
use Rattle.office_history.proofs.laws.later_deposits_of_a_class_are_covered.Goals as goal

pub returns-clause-held : goal.returns-clause-held
returns-clause-held c = λ h next k n day name matter found is after_it there same.
    covers_class next k n day name matter found.1 (ap (λ x. hold_numbered x k) after_it.1 ∙ class_hold_stays h after_it.0 k day name matter is) same

pub returns-clause-answered : goal.returns-clause-answered
returns-clause-answered c = λ h next k n day caller name matter found e.
    returns-clause-held c (after h day caller (HoldClass name matter)) next k n day name matter found (class_hold h day caller name matter k e)

pub returns-clause-live : goal.returns-clause-live
returns-clause-live c = λ h next k n day name matter found is after_it live there same.
    has_contains (live_holds next n found.1) k (among_live next k n found.1 live (returns-clause-held c h next k n day name matter found is after_it there same))
