use Rattle.office_tables.proofs.Common.{rules, None, Some, this_version}
use Rattle.office_tables.proofs.OpenLemmas.{tells_version, is_there}
use Rattle.office_tables.proofs.opening.open_tables.Goals as goal

pub returns-then-not-has_office-clause-unknown : goal.returns-then-not-has_office-clause-unknown
returns-then-not-has_office-clause-unknown g c clean version office told = absurd (
    let there = is_there version c.args.conn.now.schema office.whole.schema_is in
    let seen = c.has_office.ensures in
    let same = c.schema.ensures.value in
    let missing = c.if-not-has_office.true in
    cc)

pub returns-in-Ok-Some-clause-known : goal.returns-in-Ok-Some-clause-known
returns-in-Ok-Some-clause-known g c clean version office = tells_version version _ office.whole (Some this_version) (search rules)

pub returns-in-Ok-Some-2-clause-known_as_other : goal.returns-in-Ok-Some-2-clause-known_as_other
returns-in-Ok-Some-2-clause-known_as_other g c clean version office told = (c.in-Ok-Some-2.field-0-0, search rules, tells_version version _ office.whole (Some c.in-Ok-Some-2.field-0-0) (search rules))

pub returns-in-Ok-None-clause-unknown : goal.returns-in-Ok-None-clause-unknown
returns-in-Ok-None-clause-unknown g c clean version office told = tells_version version _ office.whole None (search rules)
