use Rattle.office_history.proofs.Lemmas.{◌≡◌, ◌≤◌, ◌∙◌, ap, sym, subst, ◌+◌, length, length-append, arith, deposits, holds, change, after, depositable, deposit_adds, was_allowed, more_deposits, was_placed, holds_after, more_holds}
use Rattle.office_core.specs.declared.request.Request.TheVariants.{Deposit as MakeDeposit}
use Rattle.office_history.proofs.laws.numbers_are_given_once.Goals as goal

pub returns-clause-deposits : goal.returns-clause-deposits
returns-clause-deposits c = λ h next day later n m caller other description description_2 bag bag_2 e after_it e_2.
    let was = was_allowed h day caller description bag n e in
    let is = was_allowed next later other description_2 bag_2 m e_2 in
    let allowed = depositable h day caller description bag.now was.0 in
    let mid = after h day caller (MakeDeposit description bag) in
    let count : length (deposits mid) ≡ length (deposits h) + 1 = ap length (deposit_adds h day caller description bag allowed.0 was.0 allowed.1) ∙ length-append (deposits h) _ in
    let more : length (deposits mid) ≤ length (deposits next) = subst (λ x. length (deposits mid) ≤ length (deposits x)) (sym after_it.1) (more_deposits mid after_it.0) in
    omega (arith, was.1, is.1, count, more)

pub returns-clause-holds : goal.returns-clause-holds
returns-clause-holds c = λ h next day later n m caller other request request_2 e after_it e_2.
    let was = was_placed h day caller request n e in
    let is = was_placed next later other request_2 m e_2 in
    let mid = after h day caller request in
    let count : length (holds mid) ≡ length (holds h) + 1 = ap length (holds_after h day (change h day caller request) was.hold was.placed) ∙ length-append (holds h) _ in
    let more : length (holds mid) ≤ length (holds next) = subst (λ x. length (holds mid) ≤ length (holds x)) (sym after_it.1) (more_holds mid after_it.0) in
    omega (arith, was.next_number, is.next_number, count, more)
