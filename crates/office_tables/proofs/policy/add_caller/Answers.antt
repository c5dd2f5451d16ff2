use Rattle.office_tables.proofs.Lemmas.{on_ok, adds_caller, add_caller_same}
use Rattle.office_tables.proofs.policy.add_caller.Goals as goal

pub returns-clause-becomes : goal.returns-clause-becomes
returns-clause-becomes g c clean office =
    on_ok c.change.result (λ count h. adds_caller _ _ (record { name = c.args.name.now; role = c.args.role.now }) count office h)
    (rw (c.params-to_sql.ensures, c.params-to_sql-2.ensures) at (c.change.ensures.ran clean))

pub returns-clause-contents : goal.returns-clause-contents
returns-clause-contents g c clean office = on_ok c.change.result (λ count h. add_caller_same _ _ _ count office h) (c.change.ensures.ran clean)
