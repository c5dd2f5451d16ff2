use Rattle.office_commands.proofs.Common.{◌≢◌, codes, inr, rules}
use Rattle.std.proofs.lemmas.Result.{err_from_is_err_and}
use Rattle.office_commands.proofs.StoreLemmas.{runs_in_file, unhad}
use Rattle.office_commands.proofs.stores.in_store.Goals as goal

pub returns-in_err-office-clause-runs : goal.returns-in_err-office-clause-runs
returns-in_err-office-clause-runs g c =
    let p = err_from_is_err_and c.from_residual.result c.from_residual.ensures.1 in
    let other : c.args.store.now ≢ codes ":memory:" = search rules in
    rw (p.1, p.2) (
      λ same. absurd (other same),
      λ _. unhad _ _ _ c.makes_office.result c.args.task.now _ _ c.makes_office.ensures c.in_err-office.ensures.unhad,
    )

pub returns-clause-runs : goal.returns-clause-runs
returns-clause-runs g c =
    let other : c.args.store.now ≢ codes ":memory:" = search rules in (
      λ same. absurd (other same),
      λ _. inr (runs_in_file _ _ c.makes_office.result c.do_task-done.result c.close_office.result c.args.task.now c.in_ok-office.office c.do_task-done.new.office _ _ c.makes_office.ensures c.in_ok-office.ensures.opened
          c.do_task-done.ensures.does c.close_office.ensures),
    )
