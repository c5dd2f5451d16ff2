use Rattle.office_engine.proofs.Lemmas.{◌≡◌, ◌∙◌, inl, inr, IsTrue, not, ap, sym, arith, rules, on_err_weaker, HasCleanDisk, state, Database, survives_weaker, rows_installed, InstallLasts, InstalledRowsLast, Installs, InstallsRows, after_policy, IsInside, IsSettled, MayCommit, all_rows, commits_next, committed_as, either_left, either_next, histories, inside, may_commit, of_ok, on_committed, survives_inside, unchanged, was_open, InstallsHistory, InstallsIn, installed_history, installed_in}
use Rattle.office_engine.proofs.installing.install.Goals as goal

pub returns : goal.returns
returns g c =
    let policy = c.args.policy.now in
    let first = c.args.conn.now in
    let last = c.install-done.new.tx.conn.now in
    let end = c.end.new.tx.0 in
    let done = c.install-done.result in
    let begun = c.transaction-tx.ensures.begun in
    let same : end ≡ c.conn-1.given.0 = search rules in
    let it : IsInside g.S.Store first last done = record {
      committed = c.is_autocommit-is_settled.ensures.settled (c.is_autocommit-is_settled.ensures.value ∙ ap not c.requires.outside);
      stays = rw begun at c.install-done.ensures.inside.stays;
      goes_on = rw begun at c.install-done.ensures.inside.goes_on;
    } in
    let made = installed_history g.S.Store first last done policy (rw begun at c.install-done.ensures.changes) c.installs_are_exact.ensures c.rules-rules.ensures.policy in
    let made_in = installed_in g.S.Store first last done policy (rw begun at c.install-done.ensures.changes) in
    let survives = survives_inside it end _ (MayCommit histories (InstallsHistory policy) (state g.S.Store first)) (may_commit histories (InstallsHistory policy) g.S.Store first last done it made) c.end.ensures.survives in
    let survives_rows = survives_inside it end _ (MayCommit all_rows (InstallsIn policy) (state g.S.Store first)) (may_commit all_rows (InstallsIn policy) g.S.Store first last done it made_in) c.end.ensures.survives in
    let crash = survives_inside it end _ _ (λ _ db makes. makes) c.end.ensures.survives in
    let settled : IsSettled (state g.S.Store first) = λ db is_open left. g.met.S.Store.settled first.store db is_open left in
    let settled_then : IsSettled (state g.S.Store end) = λ db is_open left. g.met.S.Store.settled end.store db is_open left in
    let early = λ (late : HasCleanDisk (state g.S.Store end)). let clean : HasCleanDisk (state g.S.Store last) = omega (arith, late, c.end.ensures.survives.clean) in clean in
    rw (← same) (record {
      outside = c.end.ensures.outside;
      failure = c.end.ensures.failure c.install-done.ensures.inside.failure;
      installed = λ late.
          on_committed (Installs (state g.S.Store first) (state g.S.Store end) policy) _ done c.end.result
          (λ x is shows h legal keeps. let now = committed_as histories (InstallsHistory policy) it made end (early late) x is shows h legal keeps in rw (← now.1) (record { legal = now.2; kept = now.3.0 })) (c.end.ensures.committed late);
      «open» = λ late. on_committed (IsTrue (state g.S.Store first).is_open) _ done c.end.result (λ x is shows. was_open it end (early late) x is) (c.end.ensures.committed late);
      kept = λ late. on_err_weaker c.end.result (unchanged it end (early late)) (c.end.ensures.undone late (inside it end (early late)));
      survives = survives_weaker (state g.S.Store first) (state g.S.Store end) _ _ (λ _. commits_next histories (InstallsHistory policy) (after_policy policy) (λ x y given makes. makes) (state g.S.Store first)) survives;
      durable = λ late.
          on_committed (InstallLasts (state g.S.Store first) (state g.S.Store end) policy) _ done c.end.result
          (λ x is shows h legal keeps. let now = committed_as histories (InstallsHistory policy) it made end (early late) x is shows h legal keeps in rw (← now.1) (now.3.1 settled_then)) (c.end.ensures.committed late);
      leaves = λ late h legal is_open keeps left may.
          either_next histories (InstallsHistory policy) (after_policy policy) (λ x y given makes. makes) h left (either_left histories (InstallsHistory policy) (state g.S.Store first) (state g.S.Store end) settled survives late h legal is_open keeps left may);
      made = λ late. (
        (state g.S.Store last).now.trees,
        λ left may. elim (crash.crash late left may) [
          | inl was ↦ inl was
          | inr makes ↦ inr (of_ok done makes)
        ],
        on_committed ((state g.S.Store last).now.trees ≡ (state g.S.Store end).now.trees) _ done c.end.result (λ x is shows. ap (λ (d : Database). d.trees) (sym shows.now_is)) (c.end.ensures.committed late),
      );
      installed_rows = λ late.
          on_committed (InstallsRows (state g.S.Store first) (state g.S.Store end) policy) _ done c.end.result
          (λ x is shows r has. let now = committed_as all_rows (InstallsIn policy) it made_in end (early late) x is shows r tt has in rw (← now.1) now.3.0) (c.end.ensures.committed late);
      survives_rows = survives_weaker (state g.S.Store first) (state g.S.Store end) _ _ (λ _ db may. let next = commits_next all_rows (InstallsIn policy) (rows_installed policy) (λ x y given makes. makes) (state g.S.Store first) db may in (next.0, λ r. next.1 r tt)) survives_rows;
      durable_rows = λ late.
          on_committed (InstalledRowsLast (state g.S.Store first) (state g.S.Store end) policy) _ done c.end.result
          (λ x is shows r has. let now = committed_as all_rows (InstallsIn policy) it made_in end (early late) x is shows r tt has in rw (← now.1) (now.3.1 settled_then)) (c.end.ensures.committed late);
      leaves_rows = λ late r is_open has left may.
          either_next all_rows (InstallsIn policy) (rows_installed policy) (λ x y given makes. makes) r left (either_left all_rows (InstallsIn policy) (state g.S.Store first) (state g.S.Store end) settled survives_rows late r tt is_open has left may);
    })
