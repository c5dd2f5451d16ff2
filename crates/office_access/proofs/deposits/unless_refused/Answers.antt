use Rattle.office_access.proofs.Common.{rules, refl, ◌≡◌, sym, ◌∙◌, Some, None, [], ◌∷◌, ap, option_map, Gone, ◌>>=◌, Days, days_of, first_told, gone_refusal}
use Rattle.office_access.proofs.deposits.unless_refused.Goals as goal

pub returns-in-Some-clause-reads : goal.returns-in-Some-clause-reads
returns-in-Some-clause-reads c = (ap (λ denied. first_told (Some denied ∷ gone_refusal c.args.deposit ∷ [])) c.in-Some.is, tt)

pub returns-in-Some-gone-clause-reads : goal.returns-in-Some-gone-clause-reads
returns-in-Some-gone-clause-reads c =
    let allowed : None ≡ c.args.denied = search rules in
    let gone : c.in_ok-days.days.gone ≡ Some c.in-Some-gone.day = search rules in (
      ap (λ denied. first_told (Some denied ∷ gone_refusal c.args.deposit ∷ [])) (sym allowed)
          ∙ ap (λ o. first_told ((o >>= λ (days : Days). Some (option_map Gone days.gone)) ∷ [])) c.in_ok-days.ensures.reads
          ∙ ap (λ day. first_told (Some (option_map Gone day) ∷ [])) gone,
      tt,
    )

pub returns-in-None-clause-reads : goal.returns-in-None-clause-reads
returns-in-None-clause-reads c =
    let allowed : None ≡ c.args.denied = search rules in
    let gone : c.in_ok-days.days.gone ≡ None = search rules in (
      ap (λ denied. first_told (Some denied ∷ gone_refusal c.args.deposit ∷ [])) (sym allowed)
          ∙ ap (λ o. first_told ((o >>= λ (days : Days). Some (option_map Gone days.gone)) ∷ [])) c.in_ok-days.ensures.reads
          ∙ ap (λ day. first_told (Some (option_map Gone day) ∷ [])) gone,
      refl,
    )

pub returns-in_err-days-clause-none : goal.returns-in_err-days-clause-none
returns-in_err-days-clause-none c =
    let allowed : None ≡ c.args.denied = search rules in
    let untold : days_of c.args.deposit ≡ None = search rules in
    let none : first_told (Some c.args.denied ∷ gone_refusal c.args.deposit ∷ []) ≡ None =
    ap (λ denied. first_told (Some denied ∷ gone_refusal c.args.deposit ∷ [])) (sym allowed) ∙ ap (λ o. first_told ((o >>= λ (days : Days). Some (option_map Gone days.gone)) ∷ [])) untold in
    search (rules, none)
