use Rattle.office_tables.proofs.Lemmas.{on_ok, adds_collection, add_collection_same}
use Rattle.office_tables.proofs.classes.add_collection.Goals as goal

pub returns-clause-becomes : goal.returns-clause-becomes
returns-clause-becomes g c clean office =
    on_ok c.change.result (λ count h. adds_collection _ _ c.args.name.now count office h) (rw c.params-to_sql.ensures at (c.change.ensures.ran clean))

pub returns-clause-contents : goal.returns-clause-contents
returns-clause-contents g c clean office = on_ok c.change.result (λ count h. add_collection_same _ _ _ count office h) (c.change.ensures.ran clean)
