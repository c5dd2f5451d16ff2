use Rattle.office_access.proofs.Lemmas.{IfOk-weaker, option_copied, sym, ◌≡◌, Some, ◌∙◌, role_name, office_still, told_before, clean_first, state, ◌>>=◌, tables_of, denial_for}
use Rattle.office_access.proofs.asker.denial.Goals as goal

pub returns-clause-reads : goal.returns-clause-reads
returns-clause-reads g c clean office =
    let a = c.args in
    let t = tables_of (state g.S.Store a.tx.now.conn.now).now in
    let asker = c.in_ok-asker.asker in
    let asked = c.in_ok-asker.ensures.reads (clean_first c.denial.ensures.inside.stays clean) office in
    IfOk-weaker c.denial.result _ _ (λ why says. (
      says.0 ∙ asked.0,
      (λ i. asked.1.role i >>= λ role. denial_for t role (sym asked.1.on i) a.action (option_copied a.collection) (option_copied a.class))
          ∙ told_before asked.0 (λ t. denial_for t (role_name asker) asker.day a.action (option_copied a.collection) (option_copied a.class) ≡ Some why) says.1,
    )) (c.denial.ensures.reads clean (office_still asked.0 office))
