use Rattle.office_upgrade.proofs.Stored.{stays_once, stays_held}
use Rattle.office_upgrade.proofs.laws.contents_stay.Goals as goal

pub returns-clause-once : goal.returns-clause-once
returns-clause-once c = stays_once

pub returns-clause-held : goal.returns-clause-held
returns-clause-held c = stays_held
