use Rattle.office_deposits.proofs.Common.{rules, w64, ◌≡◌, List, [], ◌∷◌, Option, Some, IfOk, sym, ap, subst, ◌∙◌, SFits, to_z-of_z, IfOk-weaker, result_err, state, Refusal, Tables, closed_ahead_refusal, tables_of, office_still, told_before, clean_first, inside_after, inside_failed, first_told, none_first, one_first, visit_of, years_shown, DepositDetails}
use Rattle.office_by_rows.specs.Refusals as by_rows
use Rattle.office_deposits.proofs.depositing.years_before_the_bag.Goals as goal

abbrev others : DepositDetails → Tables → List (Option (Option Refusal))
others q t = by_rows.taken_refusal t q.description.now.accession ∷ Some (closed_ahead_refusal q.day q.description.now.closed) ∷ []

pub returns-in_err-refused-clause-inside : goal.returns-in_err-refused-clause-inside
returns-in_err-refused-clause-inside g c = inside_failed c.in_ok-years.ensures.inside c.refusal_after_filing.ensures.inside _ (search rules) (search rules)

pub returns-clause-inside : goal.returns-clause-inside
returns-clause-inside g c = inside_after c.in_ok-years.ensures.inside c.in_ok-refused.ensures.inside _ (search rules)

pub returns-in-Err-clause-reads : goal.returns-in-Err-clause-reads
returns-in-Err-clause-reads g c clean office =
    let q = c.args.details.now in
    let t = tables_of (state g.S.Store c.args.tx.now.conn.now).now in
    let place = c.in_ok-years.ensures.reads clean office in
    (place.0, (one_first (by_rows.filing_refusals t (visit_of q) q.description.now) (others q t) c.in-Err.why (place.1.0 ∙ ap (λ given. Some (result_err given)) c.in-Err.is), tt))

pub returns-clause-reads : goal.returns-clause-reads
returns-clause-reads g c clean office =
    let q = c.args.details.now in
    let t = tables_of (state g.S.Store c.args.tx.now.conn.now).now in
    let later = c.in_ok-refused.ensures in
    let place = c.in_ok-years.ensures.reads (clean_first later.inside.stays clean) office in
    let second = later.reads clean (office_still place.0 office) in
    let refused = told_before place.0 (λ t. first_told (others q t) ≡ Some c.in_ok-refused.refused) second.1 in
    let free = none_first (by_rows.filing_refusals t (visit_of q) q.description.now) (others q t) (place.1.0 ∙ ap (λ given. Some (result_err given)) c.in-Ok.is) in
    let shown = subst (λ given. IfOk given (λ years. years_shown t q.description.now.class ≡ Some years)) c.in-Ok.is place.1.1 in
    let fits : SFits w64 c.in-Ok.years = search rules in
    let given = rw (to_z-of_z w64 c.in-Ok.years fits) at c.unless_refused.ensures in
    (second.0 ∙ place.0, (free ∙ refused ∙ ap Some (sym given.refused), IfOk-weaker c.unless_refused.result _ _ (λ years is. shown ∙ ap Some (sym is)) given.years))
