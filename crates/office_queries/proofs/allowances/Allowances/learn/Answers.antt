use Rattle.office_queries.proofs.Lemmas.{◌≡◌, Some, ◌∙◌, sym, contains_text, state, tables_of, is_allowed_for, IsToldOf, kind_lent, more_right}
use Rattle.office_by_rows.proofs.DecidedAlike.{allowed_alike}
use Rattle.office_queries.proofs.allowances.Allowances.learn.Goals as goal

pub returns-clause-reads : goal.returns-clause-reads
returns-clause-reads g c clean office =
    let a = c.args in
    let t = tables_of (state g.S.Store a.tx.now.conn.now).now in
    let spelled = a.self.now.spelled in
    let is = c.in_ok-is.is' in
    let asked = c.in_ok-is.ensures.reads clean office in (
      asked.0,
      λ role day action of_kind these.
          let answer : is_allowed_for t role day action a.collection.now a.class.now ≡ Some is =
          (λ i. is_allowed_for t (sym these.role_is i) (sym these.day_is i) (sym these.action_is i) a.collection.now a.class.now) ∙ asked.1 in
          let told : IsToldOf t role day action spelled (kind_lent a.kind) is =
          λ collection class of. allowed_alike (contains_text spelled.collections) (contains_text spelled.classes) collection class a.collection.now a.class.now (of ∙ sym of_kind) t these.among role day action ∙ answer in (
            record {
              role_is = these.role_is;
              day_is = these.day_is;
              action_is = these.action_is;
              among = these.among;
              right = more_right (IsToldOf t role day action spelled) a.self.now.known c.insert.new.self these.right a.kind is c.in_ok-insert.ensures.updates told;
            },
            answer,
          ),
    )
