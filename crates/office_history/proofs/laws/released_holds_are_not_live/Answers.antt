use Rattle.office_history.proofs.Lemmas.{◌≡◌, ◌∙◌, ap, Some, Release, release_day, after, released_stays, not_among_live, refuses_none, was_released, not_told}
use Rattle.office_history.proofs.laws.released_holds_are_not_live.Goals as goal

pub returns-clause-listed : goal.returns-clause-listed
returns-clause-listed c = λ h next k n at day deposit is after_it.
    let later : release_day next k ≡ Some day = ap (λ x. release_day x k) after_it.1 ∙ released_stays h after_it.0 k day is in
    not_among_live next k at n day deposit later

pub returns-clause-refuses : goal.returns-clause-refuses
returns-clause-refuses c = λ h next k n day later caller is after_it.
    let still : release_day next k ≡ Some day = ap (λ x. release_day x k) after_it.1 ∙ released_stays h after_it.0 k day is in
    refuses_none next later day caller k n still

pub returns-clause-told : goal.returns-clause-told
returns-clause-told c = λ h next k n at day later caller given hold is after_it.
    let still : release_day next k ≡ Some day = ap (λ x. release_day x k) after_it.1 ∙ released_stays h after_it.0 k day is in
    not_told next later day caller k n at given hold still

pub returns-clause-answered : goal.returns-clause-answered
returns-clause-answered c = λ h next k number day on caller e after_it.
    ap (λ x. release_day x k) after_it.1
    ∙ released_stays (after h day caller (Release k)) after_it.0 k day (was_released h day on caller k number e)
