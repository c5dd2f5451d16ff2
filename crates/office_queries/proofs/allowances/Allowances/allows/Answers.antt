use Rattle.office_queries.proofs.Lemmas.{rules, ◌≡◌, Some, refl, sym, IfOk-weaker, get, state, tables_of, IsToldOf, same_kind, known_right}
use Rattle.office_queries.proofs.allowances.Allowances.allows.Goals as goal

pub returns-in-Some-clause-reads : goal.returns-in-Some-clause-reads
returns-in-Some-clause-reads g c clean office =
    let a = c.args in
    let t = tables_of (state g.S.Store a.tx.now.conn.now).now in
    let known = a.self.now.known in
    let kind = c.kind_of-kind.result in
    let found : Some c.in-Some.is' ≡ get same_kind known kind = search rules in (
      refl,
      λ role day action these. (these, known_right (IsToldOf t role day action a.self.now.spelled) known these.right kind c.in-Some.is' found a.collection.now a.class.now (sym c.kind_of-kind.ensures)),
    )

pub returns-clause-reads : goal.returns-clause-reads
returns-clause-reads g c clean office = IfOk-weaker c.learn.result _ _ (λ is says. (says.0, λ role day action. says.1 role day action (sym c.kind_of-kind.ensures))) (c.learn.ensures.reads clean office)
