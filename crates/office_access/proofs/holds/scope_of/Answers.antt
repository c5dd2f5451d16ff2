use Rattle.office_access.proofs.Common.{sym, ap, scope_of}
use Rattle.office_tables.specs.ShownHolds.{held_class, held_collection, held_deposit}
use Rattle.office_tables.specs.declared.holds.HoldTarget.{HoldTarget}
use Rattle.office_access.proofs.holds.scope_of.Goals as goal

pub returns-in-Deposit : goal.returns-in-Deposit
returns-in-Deposit c = sym (ap (λ (named : HoldTarget). scope_of (held_deposit named) (held_collection named) (held_class named)) c.in-Deposit.is)

pub returns-in-Collection : goal.returns-in-Collection
returns-in-Collection c = sym (ap (λ (named : HoldTarget). scope_of (held_deposit named) (held_collection named) (held_class named)) c.in-Collection.is)

pub returns-in-Class : goal.returns-in-Class
returns-in-Class c = sym (ap (λ (named : HoldTarget). scope_of (held_deposit named) (held_collection named) (held_class named)) c.in-Class.is)
