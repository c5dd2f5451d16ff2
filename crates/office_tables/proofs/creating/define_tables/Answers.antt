use Rattle.office_tables.proofs.Lemmas.{on_ok_weaker, no_schema, office_schema, builds_office}
use Rattle.office_tables.proofs.creating.define_tables.Goals as goal

pub returns-clause-made : goal.returns-clause-made
returns-clause-made g c clean none = on_ok_weaker c.define.result (λ made. made no_schema office_schema builds_office (record { schema_is = none; empty = tt })) (c.define.ensures.made clean)
