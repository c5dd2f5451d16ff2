use Rattle.desk_hearing.proofs.Lemmas.{◌≡◌, refl, sym, ◌∙◌, err_from_is_err_and, Truncated, refusal_of_head, asked_route, route_refused, query_refused, front_announced, head_uncut, route_uncut, query_uncut}
use Rattle.desk_heads.specs.View.{contents_seen}
use Rattle.desk_hearing.proofs.judging.judge_front.Goals as goal

pub returns-in_err-head-clause-uncut : goal.returns-in_err-head-clause-uncut
returns-in_err-head-clause-uncut c =
    let p = err_from_is_err_and c.from_residual.result c.from_residual.ensures.1 in
    rw (p.1, p.2) (λ e. let same : refusal_of_head c.in_err-head.field-0.0 ≡ Truncated = cc in head_uncut c.in_err-head.field-0.0 same)

pub returns-in_err-route-clause-uncut : goal.returns-in_err-route-clause-uncut
returns-in_err-route-clause-uncut c =
    let p = err_from_is_err_and c.from_residual-in_err-route.result c.from_residual-in_err-route.ensures.1 in
    rw (p.1, p.2) (λ e. let same : c.in_err-route.field-0.0 ≡ Truncated = cc in route_uncut c.in_ok-head.head.method.now c.split_target.result.0.now c.in_err-route.field-0.0 (sym c.in_err-route.ensures) same)

pub returns-in_err-route-clause-answered : goal.returns-in_err-route-clause-answered
returns-in_err-route-clause-answered c =
    let p = err_from_is_err_and c.from_residual-in_err-route.result c.from_residual-in_err-route.ensures.1 in
    rw (p.1, p.2) (λ rest. route_refused c.args.front.now rest (contents_seen c.in_ok-head.head) c.in_err-route.field-0.0 c.in_ok-head.ensures.judged
    (asked_route (contents_seen c.in_ok-head.head) _ _ c.split_target.ensures.path (sym c.in_err-route.ensures)))

pub returns-in_err-question-clause-uncut : goal.returns-in_err-question-clause-uncut
returns-in_err-question-clause-uncut c =
    let p = err_from_is_err_and c.from_residual-in_err-question.result c.from_residual-in_err-question.ensures.1 in
    rw (p.1, p.2) (λ e. query_uncut _ _ c.in_err-question.field-0.0 c.in_err-question.ensures.asked (cc))

pub returns-in_err-question-clause-answered : goal.returns-in_err-question-clause-answered
returns-in_err-question-clause-answered c =
    let p = err_from_is_err_and c.from_residual-in_err-question.result c.from_residual-in_err-question.ensures.1 in
    rw (p.1, p.2) (query_refused c.args.front.now _ (contents_seen c.in_ok-head.head) c.in_ok-route.route c.in_err-question.field-0.0 c.in_ok-head.ensures.judged
    (asked_route (contents_seen c.in_ok-head.head) _ _ c.split_target.ensures.path (sym c.in_ok-route.ensures))
    (c.as_bytes.ensures.value ∙ c.split_target.ensures.query) c.in_err-question.ensures.asked)

pub returns-clause-answered : goal.returns-clause-answered
returns-clause-answered c =
    front_announced c.args.front.now _ (contents_seen c.in_ok-head.head) c.in_ok-route.route _ c.in_ok-head.ensures.judged
    (asked_route (contents_seen c.in_ok-head.head) _ _ c.split_target.ensures.path (sym c.in_ok-route.ensures))
    (c.as_bytes.ensures.value ∙ c.split_target.ensures.query) c.in_ok-question.ensures.asked c.in_ok-caller.ensures refl
