use Rattle.office_tables.proofs.Lemmas.{on_ok, drops_callers, drop_callers_same}
use Rattle.office_tables.proofs.policy.drop_callers.Goals as goal

pub returns-clause-becomes : goal.returns-clause-becomes
returns-clause-becomes g c clean office =
    on_ok c.change.result (λ count h. drops_callers _ _ count office h) (c.change.ensures.ran clean)

pub returns-clause-contents : goal.returns-clause-contents
returns-clause-contents g c clean office = on_ok c.change.result (λ count h. drop_callers_same _ _ _ count office h) (c.change.ensures.ran clean)
