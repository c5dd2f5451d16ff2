use Rattle.office_engine.proofs.Lemmas.{state, failed_back}
use Rattle.office_engine.proofs.installing.end.Goals as goal

pub returns-in-Err-commit-clause-undone : goal.returns-in-Err-commit-clause-undone
returns-in-Err-commit-clause-undone g c clean inside =
    failed_back (state g.S.Store c.args.tx.conn.now) (state g.S.Store c.commit.new.self.0) c.in-Err-commit.error (rw c.in-Ok.is at inside) (c.in-Err-commit.ensures.err clean)
