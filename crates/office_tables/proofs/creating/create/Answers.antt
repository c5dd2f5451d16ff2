use Rattle.office_tables.proofs.Lemmas.{rules, state, leaves_made}
use Rattle.office_tables.proofs.creating.create.Goals as goal

pub returns-in-Ok-clause-durable : goal.returns-in-Ok-clause-durable
returns-in-Ok-clause-durable g c clean = leaves_made (state g.S.Store c.conn-2-1.given.0) _ (λ db is_open left. g.met.S.Store.settled c.conn-2-1.given.0.store db is_open left) (search rules)
