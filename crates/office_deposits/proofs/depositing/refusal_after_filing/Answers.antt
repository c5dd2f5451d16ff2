use Rattle.office_deposits.proofs.Lemmas.{◌≡◌, [], ◌∷◌, pos, sym, ap, ◌∙◌, Some, option_map, DepositRow, ◌>>=◌, Taken, closed_ahead_refusal, count_of, if_any, first_told, one_told}
use Rattle.office_deposits.proofs.depositing.refusal_after_filing.Goals as goal

pub returns-in-Some-clause-reads : goal.returns-in-Some-clause-reads
returns-in-Some-clause-reads g c clean office =
    let ahead = closed_ahead_refusal c.args.details.now.day c.args.details.now.description.now.closed in
    let found = ap (option_map (λ (d : DepositRow). d.number)) (sym (sym c.in-Some.is ∙ (rw c.as_str.ensures.text at (c.in_ok-deposit.ensures.found clean office)))) in
    let number : Some c.in-Some.deposit.number ≡ Some (pos c.deposit.inside.number) = sym (ap (λ (d : DepositRow). Some d.number) c.deposit.view_is) in
    (c.in_ok-deposit.ensures.same clean office, ap (λ number. first_told ((if_any count_of number >>= λ number. Some (option_map Taken number)) ∷ Some ahead ∷ [])) (found ∙ number))

pub returns-in-None-clause-reads : goal.returns-in-None-clause-reads
returns-in-None-clause-reads g c clean office =
    let ahead = closed_ahead_refusal c.args.details.now.day c.args.details.now.description.now.closed in
    let found = ap (option_map (λ (d : DepositRow). d.number)) (sym (sym c.in-None.is ∙ (rw c.as_str.ensures.text at (c.in_ok-deposit.ensures.found clean office)))) in
    (c.in_ok-deposit.ensures.same clean office, ap (λ number. first_told ((if_any count_of number >>= λ number. Some (option_map Taken number)) ∷ Some ahead ∷ [])) found ∙ one_told ahead ∙ ap Some (sym c.closed_ahead.ensures))
