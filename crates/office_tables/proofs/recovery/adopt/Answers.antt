use Rattle.office_tables.proofs.Common.{◌≡◌, ap, subst, None, Err, version_of, this_version, IsKnownAsOther, Newest, state}
use Rattle.office_tables.proofs.FoundAgain.{goes_on, is_known, fails_only}
use Rattle.office_tables.proofs.recovery.adopt.Goals as goal

pub returns-in-Ok-clause-found : goal.returns-in-Ok-clause-found
returns-in-Ok-clause-found g c clean =
    let before = state g.S.Store c.args.conn in
    goes_on before (state g.S.Store c.open_tables.new.conn) c.schema-schema.ensures.live (c.open_tables.ensures.same clean)

pub returns-in-Err-clause-refused : goal.returns-in-Err-clause-refused
returns-in-Err-clause-refused g c clean =
    let before = state g.S.Store c.args.conn in
    goes_on before (state g.S.Store c.open_tables.new.conn) c.schema-schema.ensures.live (c.open_tables.ensures.same clean)

pub returns-in-Err-clause-failure : goal.returns-in-Err-clause-failure
returns-in-Err-clause-failure g c clean is_open tables left version =
    let before = state g.S.Store c.args.conn in
    let it = is_known tables before c.schema-schema.ensures.live is_open left in
    let said = c.in-Err.ensures in
    fails_only c.in-Err.stopped tables
    (λ e. subst (λ t. version_of t ≡ None) it.1 (said.unknown clean Newest it.0 (ap Err e)))
    (λ e. subst (λ t. IsKnownAsOther t this_version) it.1 (said.known_as_other clean Newest it.0 (ap Err e)))
    version
