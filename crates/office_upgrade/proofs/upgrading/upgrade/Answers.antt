use Rattle.office_upgrade.proofs.Common.{rules, ◌≡◌, ◌⊎◌, IsTrue, Ok, Err, true, false, refl, subst, sym, ◌∙◌, inl, inr, state, HasCleanDisk, HasVersion, version_number, Newest, is_there}
use Rattle.office_contents.specs.declared.fault.TableFault.TheVariants as fault
use Rattle.office_upgrade.proofs.Ending.{Lasts, clean_before, commits, fails_only, lasts, lasts_back, taken_from}
use Rattle.office_upgrade.proofs.upgrading.upgrade.Goals as goal

pub returns-then-not-has_office-clause-failure : goal.returns-then-not-has_office-clause-failure
returns-then-not-has_office-clause-failure g c clean version rows becomes told = absurd (
    let there = is_there version c.args.conn.now.schema becomes.office.whole.schema_is in
    let seen = c.has_office.ensures in
    let same = c.schema.ensures.value in
    let missing = c.if-not-has_office.true in
    cc)

pub returns-in-Ok-clause-survives : goal.returns-in-Ok-clause-survives
returns-in-Ok-clause-survives g c =
    let e = c.take_over.ensures in
    let it = taken_from g.S.Store c.args.conn.now _ c.take_over.new.tx.conn.now c.take_over.result c.transaction-tx.ensures.begun e.stays e.renewed e.same e.was_older e.newest e.not_office e.other_version in
    commits g.S.Store c.args.conn.now c.take_over.new.tx.conn.now c.commit.new.self.0 c.take_over.result it c.conn-1.given.0 (search rules) (search rules) c.commit.ensures.survives

pub returns-in-Err-commit-clause-survives : goal.returns-in-Err-commit-clause-survives
returns-in-Err-commit-clause-survives g c =
    let e = c.take_over.ensures in
    let it = taken_from g.S.Store c.args.conn.now _ c.take_over.new.tx.conn.now c.take_over.result c.transaction-tx.ensures.begun e.stays e.renewed e.same e.was_older e.newest e.not_office e.other_version in
    commits g.S.Store c.args.conn.now c.take_over.new.tx.conn.now c.commit.new.self.0 c.take_over.result it c.conn-1.given.0 (search rules) (search rules) c.commit.ensures.survives

pub returns-in-Ok-clause-durable : goal.returns-in-Ok-clause-durable
returns-in-Ok-clause-durable g c =
    let e = c.take_over.ensures in
    let it = taken_from g.S.Store c.args.conn.now _ c.take_over.new.tx.conn.now c.take_over.result c.transaction-tx.ensures.begun e.stays e.renewed e.same e.was_older e.newest e.not_office e.other_version in
    let last = c.take_over.new.tx.conn.now in
    let end = c.commit.new.self.0 in
    let same : end ≡ c.conn-1.given.0 = search rules in
    let is : c.take_over.result ≡ Ok true = search rules in
    subst (Lasts g.S.Store c.args.conn.now) same (λ late version rows office settled was_open left may.
    let shown = (c.in-Ok.ensures.ok late).1 in
    lasts g.S.Store c.args.conn.now last end c.take_over.result it true is (clean_before g.S.Store last end end _ c.commit.ensures.survives refl late) shown.is_open shown.now_is (shown.committed_is ∙ sym shown.now_is)
    (λ db is_open left. g.met.S.Store.settled end.store db is_open left) version rows office left may)

pub returns-in-Ok-clause-is_open : goal.returns-in-Ok-clause-is_open
returns-in-Ok-clause-is_open g c =
    let first = c.args.conn.now in
    let end = c.commit.new.self.0 in
    let same : end ≡ c.conn-1.given.0 = search rules in
    subst (λ x. HasCleanDisk (state g.S.Store x) → HasVersion (state g.S.Store first).now (version_number Newest) ⊎ IsTrue (state g.S.Store x).is_open) same
    (λ late. inr (c.in-Ok.ensures.ok late).1.is_open)

pub returns-in-Ok-false-clause-is_open : goal.returns-in-Ok-false-clause-is_open
returns-in-Ok-false-clause-is_open g c clean =
    let e = c.take_over.ensures in
    let it = taken_from g.S.Store c.args.conn.now _ c.take_over.new.tx.conn.now c.take_over.result c.transaction-tx.ensures.begun e.stays e.renewed e.same e.was_older e.newest e.not_office e.other_version in
    inl (it.newest (clean_before g.S.Store c.take_over.new.tx.conn.now c.rollback.new.self.0 c.conn-in-Ok-false-1.given.0 _ c.rollback.ensures.survives (search rules) clean) (search rules))

pub returns-in-Ok-clause-kept : goal.returns-in-Ok-clause-kept
returns-in-Ok-clause-kept g c clean not_older =
    let e = c.take_over.ensures in
    let it = taken_from g.S.Store c.args.conn.now _ c.take_over.new.tx.conn.now c.take_over.result c.transaction-tx.ensures.begun e.stays e.renewed e.same e.was_older e.newest e.not_office e.other_version in
    absurd (not_older (it.older (clean_before g.S.Store c.take_over.new.tx.conn.now c.commit.new.self.0 c.conn-1.given.0 _ c.commit.ensures.survives (search rules) clean) (search rules)))

pub returns-in-Ok-false-clause-durable : goal.returns-in-Ok-false-clause-durable
returns-in-Ok-false-clause-durable g c =
    let e = c.take_over.ensures in
    let it = taken_from g.S.Store c.args.conn.now _ c.take_over.new.tx.conn.now c.take_over.result c.transaction-tx.ensures.begun e.stays e.renewed e.same e.was_older e.newest e.not_office e.other_version in
    let last = c.take_over.new.tx.conn.now in
    let end = c.rollback.new.self.0 in
    let same : end ≡ c.conn-in-Ok-false-1.given.0 = search rules in
    let is : c.take_over.result ≡ Ok false = search rules in
    subst (Lasts g.S.Store c.args.conn.now) same (λ late.
    lasts_back g.S.Store c.args.conn.now last end c.take_over.result it is c.rollback.ensures.survives (clean_before g.S.Store last end end _ c.rollback.ensures.survives refl late) late
    (λ db is_open left. g.met.S.Store.settled c.args.conn.now.store db is_open left))

pub returns-in-Err-clause-not_office : goal.returns-in-Err-clause-not_office
returns-in-Err-clause-not_office g c clean told =
    let e = c.take_over.ensures in
    let it = taken_from g.S.Store c.args.conn.now _ c.take_over.new.tx.conn.now c.take_over.result c.transaction-tx.ensures.begun e.stays e.renewed e.same e.was_older e.newest e.not_office e.other_version in
    let stopped : c.in-Err.stopped ≡ fault.NotAnOffice = cc in
    let is : c.take_over.result ≡ Err c.in-Err.stopped = search rules in
    inr (it.not_office (clean_before g.S.Store c.take_over.new.tx.conn.now c.rollback-in-Err.new.self.0 c.conn-in-Err-1.given.0 _ c.rollback-in-Err.ensures.survives (search rules) clean) (rw stopped at is))

pub returns-in-Err-clause-failure : goal.returns-in-Err-clause-failure
returns-in-Err-clause-failure g c clean =
    let e = c.take_over.ensures in
    let it = taken_from g.S.Store c.args.conn.now _ c.take_over.new.tx.conn.now c.take_over.result c.transaction-tx.ensures.begun e.stays e.renewed e.same e.was_older e.newest e.not_office e.other_version in
    let early = clean_before g.S.Store c.take_over.new.tx.conn.now c.rollback-in-Err.new.self.0 c.conn-in-Err-1.given.0 _ c.rollback-in-Err.ensures.survives (search rules) clean in
    let is : c.take_over.result ≡ Err c.in-Err.stopped = search rules in
    fails_only c.in-Err.stopped (state g.S.Store c.args.conn.now).now (λ e. it.not_office early (rw e at is)) (λ e. it.other_version early (rw e at is))
