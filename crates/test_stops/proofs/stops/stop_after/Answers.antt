use Rattle.test_stops.proofs.Common.{IfOk, arith, sym, subst, ◌∙◌, IfOk-weaker, Trees, HasCleanDisk, file_state, after, Item, IsLeftOf, IsLeftOfEither, IsLeftOfRun, LeavesEither, LeavesStored, LeavesRun, after_item}
use Rattle.test_stops.proofs.Stopping.{holds_all, if_some, on_err_both}
use Rattle.test_stops.proofs.stops.stop_after.Goals as goal

pub returns-in-Some-clause-one : goal.returns-in-Some-clause-one
returns-in-Some-clause-one g c clean =
    let conn = c.into_connection.result in
    let early : HasCleanDisk (file_state conn) = omega (arith, c.stop.ensures.clean) in
    let item : Item = (c.in-Some.day, c.in-Some.caller, c.in-Some.request.now) in
    let leaves = subst (λ s. HasCleanDisk (file_state s) → LeavesEither (file_state c.args.office) (file_state s) (after_item item)) (sym c.into_connection.ensures.same) c.step-answer.ensures.leaves in
    if_some c.args.one.now (c.in-Some.day, c.in-Some.caller, c.in-Some.request) _ c.in-Some.is (λ h legal is_open keeps image may. holds_all image (file_state conn) (IsLeftOfEither h (after h c.in-Some.day c.in-Some.caller.now c.in-Some.request.now)) (leaves early h legal is_open keeps) (c.stop.ensures.holds clean image may))

pub returns-in-None-clause-run : goal.returns-in-None-clause-run
returns-in-None-clause-run g c clean none =
    let conn = c.into_connection-in-None.result in
    let early : HasCleanDisk (file_state conn) = omega (arith, c.stop-in-None.ensures.clean) in
    let leaves = subst (λ s. HasCleanDisk (file_state s) → IfOk c.run-answers.result (λ answers. LeavesRun (file_state c.args.office) (file_state s) c.args.items.now answers.items)) (sym c.into_connection-in-None.ensures.same) c.run-answers.ensures.leaves in
    IfOk-weaker c.run-answers.result _ _ (λ answers so h legal is_open keeps image may. holds_all image (file_state conn) (IsLeftOfRun h c.args.items.now answers.items) (so h legal is_open keeps) (c.stop-in-None.ensures.holds clean image may)) (leaves early)

pub returns-in-None-clause-failed : goal.returns-in-None-clause-failed
returns-in-None-clause-failed g c clean none =
    let conn = c.into_connection-in-None.result in
    on_err_both c.run-answers.result (λ same leaves h is_open keeps image may.
    let kept = subst (λ s. LeavesStored (file_state s)) same leaves in
    let as_it_was = subst (λ s. (left : Trees) → (file_state s).may_leave left → IsLeftOf h left) (sym (c.into_connection-in-None.ensures.same ∙ same)) (kept h is_open keeps) in
    holds_all image (file_state conn) (IsLeftOf h) as_it_was (c.stop-in-None.ensures.holds clean image may)) c.run-answers.ensures.failed c.run-answers.ensures.failed_leaves
