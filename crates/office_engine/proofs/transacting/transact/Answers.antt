use Rattle.office_engine.proofs.Lemmas.{◌≡◌, ◌∙◌, true, not, ap, arith, rules, HasCleanDisk, state, survives_weaker, Item, visit_on, Serves, after_item, IsInside, MakesHistory, MakesRows, MayCommit, all_rows, commits_next, histories, may_commit, survives_inside, served_history, takes_rows_step}
use Rattle.office_engine.proofs.Turn.{Makes, how, makes_left, turn}
use Rattle.office_engine.proofs.transacting.transact.Goals as goal

pub returns : goal.returns
returns g c =
    let item : Item = (c.args.day, c.args.caller, c.args.request.now) in
    let first = c.args.conn.now in
    let last = c.decide-decided.new.tx.conn.now in
    let end = c.end.new.tx.0 in
    let decided = c.decide-decided.result in
    let begun = c.transaction-tx.ensures.begun in
    let same : end ≡ c.conn-1.given.0 = search rules in
    let serves : Serves g.S.Store (record first { in_transaction = true }) last decided (visit_on item.0 item.1.now) item.2 = rw begun at c.decide-decided.ensures.serves in
    let it : IsInside g.S.Store first last decided = record {
      committed = c.is_autocommit-is_settled.ensures.settled (c.is_autocommit-is_settled.ensures.value ∙ ap not c.requires.outside);
      stays = rw begun at c.decide-decided.ensures.inside.stays;
      goes_on = rw begun at c.decide-decided.ensures.inside.goes_on;
    } in
    let makes_history = served_history g.S.Store first last decided item serves c.requests_are_exact.ensures (search rules, c.prove_in_range.ensures) in
    let makes_rows = takes_rows_step g.S.Store first last decided item serves in
    let ended = survives_weaker (state g.S.Store last) (state g.S.Store end) _ _ (λ _ db. makes_left (state g.S.Store last) decided db) c.end.ensures.survives in
    let survives_history = survives_inside it end _ (MayCommit histories (MakesHistory item) (state g.S.Store first)) (may_commit histories (MakesHistory item) g.S.Store first last decided it makes_history) ended in
    let survives = survives_weaker (state g.S.Store first) (state g.S.Store end) _ _ (λ _. commits_next histories (MakesHistory item) (after_item item) (λ x y given makes. makes.1) (state g.S.Store first)) survives_history in
    let survives_rows = survives_inside it end _ (MayCommit all_rows (MakesRows item) (state g.S.Store first)) (may_commit all_rows (MakesRows item) g.S.Store first last decided it makes_rows) ended in
    let crash = survives_inside it end _ (Makes (state g.S.Store last) decided) (λ _ db makes. makes) c.end.ensures.survives in
    rw (← same) (record {
      outside = c.end.ensures.outside;
      turn = λ (late : HasCleanDisk (state g.S.Store end)).
          let early : HasCleanDisk (state g.S.Store last) = omega (arith, late, c.end.ensures.survives.clean) in
          turn it end c.end.result early item makes_history makes_rows serves (λ s db is_open left. g.met.S.Store.settled s.store db is_open left) late (crash.crash late) survives_history survives survives_rows
          (how it end c.end.result early c.end.ensures.told (c.end.ensures.committed late) (c.end.ensures.undone late));
      survives = survives;
      survives_rows = survives_weaker (state g.S.Store first) (state g.S.Store end) _ _ (λ _ db may. (may.0, λ r. may.1 r tt)) survives_rows;
    })
