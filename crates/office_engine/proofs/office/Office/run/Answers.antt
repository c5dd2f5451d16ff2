use Rattle.office_engine.proofs.Lemmas.{arith, rules, ⊤, HasCleanDisk, state, survives_then, Pictures, IsOfficeWith, IsTurn, left_settled}
use Rattle.office_engine.proofs.RunTurns.{left_rows, left_run, on_err, ran, ran_rows, survived, survives_run, turns_end, turns_next, turns_shut}
use Rattle.office_engine.proofs.office.Office.run.Goals as goal

pub loop-item-preserved : goal.loop-item-preserved
loop-item-preserved g c = record {
  count = omega (arith, c.loop-item.invariant.count, c.push_reserved.ensures.len);
  room = search rules;
  in_turn = λ clean.
      let early : HasCleanDisk (state g.S.Store c.loop-item.self) = omega (arith, clean, c.step.ensures.survives.clean) in
      let turn : IsTurn (state g.S.Store c.loop-item.self) (state g.S.Store c.step.new.self) c.item-item.result c.step.result = record {
        served = c.step.ensures.served clean;
        kept = c.step.ensures.kept clean;
        rows = c.step.ensures.rows clean;
        shut = c.step.ensures.shut clean;
        survives = c.step.ensures.survives;
        survives_rows = c.step.ensures.survives_rows;
        durable = c.step.ensures.durable clean;
        leaves = c.step.ensures.leaves clean;
        made = c.step.ensures.made clean;
        takes_rows_step = c.step.ensures.takes_rows_step clean;
        leaves_rows = c.step.ensures.leaves_rows clean;
        durable_rows = c.step.ensures.durable_rows clean;
      } in
      rw c.push_reserved.ensures.items (turns_next g.S.Store c.args.self.now c.loop-item.self c.step.new.self c.args.items.now c.loop-item.item-index c.item-item.result c.loop-item.answers.items c.step.result
      c.loop-item-test.true c.item-item.is (c.loop-item.invariant.in_turn early) turn);
  survives = survives_then (state g.S.Store c.args.self.now) (state g.S.Store c.loop-item.self) (state g.S.Store c.step.new.self) _ _ (λ _. ⊤) (λ _ db made. made) (λ _ db made. tt) c.loop-item.invariant.survives c.step.ensures.survives;
}

pub returns-clause-in_turn : goal.returns-clause-in_turn
returns-clause-in_turn g c clean =
    turns_end g.S.Store c.args.self.now c.loop-item.self c.args.items.now c.loop-item.item-index c.loop-item.answers.items c.loop-item-test.false (c.loop-item.invariant.in_turn clean)

pub returns-clause-ran : goal.returns-clause-ran
returns-clause-ran g c clean = ran g.S.Store c.args.self.now c.loop-item.self c.args.items.now c.loop-item.answers.items (returns-clause-in_turn g c clean)

pub returns-clause-ran_rows : goal.returns-clause-ran_rows
returns-clause-ran_rows g c clean = ran_rows g.S.Store c.args.self.now c.loop-item.self c.args.items.now c.loop-item.answers.items (returns-clause-in_turn g c clean)

pub returns-clause-shut : goal.returns-clause-shut
returns-clause-shut g c clean = turns_shut g.S.Store c.args.self.now c.loop-item.self c.args.items.now c.loop-item.answers.items (returns-clause-in_turn g c clean)

pub returns-clause-leaves : goal.returns-clause-leaves
returns-clause-leaves g c clean =
    left_run g.S.Store c.args.self.now c.loop-item.self c.args.items.now c.loop-item.answers.items (returns-clause-in_turn g c clean) (λ s db is_open left. g.met.S.Store.settled s.store db is_open left) clean

pub returns-clause-leaves_rows : goal.returns-clause-leaves_rows
returns-clause-leaves_rows g c clean =
    left_rows g.S.Store c.args.self.now c.loop-item.self c.args.items.now c.loop-item.answers.items (returns-clause-in_turn g c clean) (λ s db is_open left. g.met.S.Store.settled s.store db is_open left) clean

pub returns-clause-survives : goal.returns-clause-survives
returns-clause-survives g c =
    survives_run (state g.S.Store c.args.self.now) (state g.S.Store c.loop-item.self) (λ _. ⊤) _ c.loop-item.invariant.survives (λ clean.
    survived g.S.Store c.args.self.now c.loop-item.self c.args.items.now c.loop-item.answers.items (returns-clause-in_turn g c clean) (λ s db is_open left. g.met.S.Store.settled s.store db is_open left) clean _
    (λ is_open left may h legal keeps. returns-clause-leaves g c clean h legal is_open keeps left may))

pub returns-clause-survives_rows : goal.returns-clause-survives_rows
returns-clause-survives_rows g c =
    survives_run (state g.S.Store c.args.self.now) (state g.S.Store c.loop-item.self) (λ _. ⊤) _ c.loop-item.invariant.survives (λ clean.
    survived g.S.Store c.args.self.now c.loop-item.self c.args.items.now c.loop-item.answers.items (returns-clause-in_turn g c clean) (λ s db is_open left. g.met.S.Store.settled s.store db is_open left) clean _
    (λ is_open left may r has. returns-clause-leaves_rows g c clean r is_open has left may))

pub returns-in_err-answers-clause-failed_leaves : goal.returns-in_err-answers-clause-failed_leaves
returns-in_err-answers-clause-failed_leaves g c =
    on_err c.from_residual.result (λ h is_open keeps. left_settled (Pictures h) (state g.S.Store c.args.self.now) (λ db opened left. g.met.S.Store.settled c.args.self.now.store db opened left) is_open keeps)

pub returns-in_err-answers-clause-failed_leaves_rows : goal.returns-in_err-answers-clause-failed_leaves_rows
returns-in_err-answers-clause-failed_leaves_rows g c =
    on_err c.from_residual.result (λ r is_open has. left_settled (IsOfficeWith r) (state g.S.Store c.args.self.now) (λ db opened left. g.met.S.Store.settled c.args.self.now.store db opened left) is_open has)
