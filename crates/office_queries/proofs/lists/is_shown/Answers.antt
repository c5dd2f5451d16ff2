use Rattle.office_queries.proofs.Common.{rules, ◌≡◌, true, Some, sym, ◌∙◌, false, is_some, IfOk-weaker, state, tables_of, wanted_of, is_allowed_for, is_wanted, day_numbered, if_any}
use Rattle.office_core.specs.declared.action.Action.TheVariants as acts
use Rattle.office_queries.proofs.ListedByRow as listed
use Rattle.office_queries.proofs.lists.is_shown.Goals as goal

pub returns-clause-reads : goal.returns-clause-reads
returns-clause-reads g c clean office =
    let a = c.args in
    let t = tables_of (state g.S.Store a.tx.now.conn.now).now in
    let row = a.row.now in
    let these = wanted_of a.collection a.class in
    let of_collection : c.deref.result.now ≡ row.collection = search rules in
    let of_class : c.deref-2.result.now ≡ row.class = search rules in
    let wanted : is_wanted these row ≡ true = search rules in
    let gone : if_any day_numbered row.gone ≡ Some c.in_ok-optional_day_numbered.field-0 = search rules in
    let kept : is_some c.in_ok-optional_day_numbered.field-0 ≡ false = search rules in
    IfOk-weaker c.allows.result _ _ (λ is says. (
      says.0,
      λ role day known.
          let said = says.1 role day acts.List known in
          (said.0, listed.rules_asked t role day these row c.in_ok-optional_day_numbered.field-0 is wanted gone kept ((λ i. is_allowed_for t role day acts.List (sym of_collection i) (sym of_class i)) ∙ said.1)),
    ))
    (c.allows.ensures.reads clean office)
