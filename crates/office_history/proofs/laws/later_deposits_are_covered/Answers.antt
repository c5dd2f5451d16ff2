use Rattle.office_history.proofs.Lemmas.{◌∙◌, ap, HoldCollection, after, hold_numbered, covers_collection, collection_hold, collection_hold_stays}
use Rattle.office_history.proofs.laws.later_deposits_are_covered.Goals as goal

pub returns-clause-held : goal.returns-clause-held
returns-clause-held c = λ h next k n day name matter found is after_it there same.
    covers_collection next k n day name matter found.1 (ap (λ x. hold_numbered x k) after_it.1 ∙ collection_hold_stays h after_it.0 k day name matter is) same

pub returns-clause-answered : goal.returns-clause-answered
returns-clause-answered c = λ h next k n day caller name matter found e.
    returns-clause-held c (after h day caller (HoldCollection name matter)) next k n day name matter found (collection_hold h day caller name matter k e)
