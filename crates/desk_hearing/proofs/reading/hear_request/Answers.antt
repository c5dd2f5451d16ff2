use Rattle.desk_hearing.proofs.Lemmas.{◌+◌, ◌<◌, ◌≤◌, Ok, Err, take, subst, err_from_is_err_and, AnswersFront, head_given, head_end, front_given, judged_uncut, filled, fill_given, fill_end, ask_given, ask_uncut, heard_given, whole_of, part_is}
use Rattle.desk_hearing.proofs.reading.hear_request.Goals as goal

pub returns-in_err-head-clause-given : goal.returns-in_err-head-clause-given
returns-in_err-head-clause-given g c =
    let p = err_from_is_err_and c.from_residual.result c.from_residual.ensures.1 in
    rw (p.1, p.2) (head_given c.in_err-head.field-0.0 _ _ c.in_err-head.ensures.given)

pub returns-in_err-head-clause-end : goal.returns-in_err-head-clause-end
returns-in_err-head-clause-end g c =
    let p = err_from_is_err_and c.from_residual.result c.from_residual.ensures.1 in
    rw (p.1, p.2) (head_end c.in_err-head.field-0.0 _ _ c.in_err-head.ensures.given)

pub returns-in_err-head-clause-whole : goal.returns-in_err-head-clause-whole
returns-in_err-head-clause-whole g c = whole_of _ _ _ (returns-in_err-head-clause-given g c) (returns-in_err-head-clause-end g c)

pub returns-in_err-announced-clause-given : goal.returns-in_err-announced-clause-given
returns-in_err-announced-clause-given g c =
    let first = c.in_ok-head.ensures.given (λ e. cc) in
    let p = err_from_is_err_and c.from_residual-in_err-announced.result c.from_residual-in_err-announced.ensures.1 in
    rw (p.1, p.2) (front_given c.in_err-announced.field-0.0 _ _ c.in_ok-head.head.bytes.items first.0 c.in_ok-head.head.end first.1 first.2.0 first.2.1
    (subst (λ l. AnswersFront (take c.in_ok-head.head.end l) (Err c.in_err-announced.field-0.0)) c.deref.ensures.value c.in_err-announced.ensures.answered))

pub returns-in_err-announced-clause-end : goal.returns-in_err-announced-clause-end
returns-in_err-announced-clause-end g c =
    let p = err_from_is_err_and c.from_residual-in_err-announced.result c.from_residual-in_err-announced.ensures.1 in
    rw (p.1, p.2) (λ e. absurd (judged_uncut c.in_err-announced.field-0.0 c.in_err-announced.ensures.uncut e))

pub returns-in_err-announced-clause-whole : goal.returns-in_err-announced-clause-whole
returns-in_err-announced-clause-whole g c = whole_of _ _ _ (returns-in_err-announced-clause-given g c) (returns-in_err-announced-clause-end g c)

pub returns-in_err-fill-clause-given : goal.returns-in_err-fill-clause-given
returns-in_err-fill-clause-given g c =
    let first = c.in_ok-head.ensures.given (λ e. cc) in
    let announces = subst (λ l. AnswersFront (take c.in_ok-head.head.end l) (Ok c.in_ok-announced.announced)) c.deref.ensures.value c.in_ok-announced.ensures.answered in
    let p = err_from_is_err_and c.from_residual-in_err-fill.result c.from_residual-in_err-fill.ensures.1 in
    rw (p.1, p.2) (fill_given c.in_err-fill.field-0.0 _ _ c.fill.new.bytes.items c.in_ok-head.head.end c.in_ok-announced.announced.body_length c.in_ok-announced.announced.caller c.in_ok-announced.announced.question
    (λ remembered. let more = c.in_err-fill.ensures.given (λ e. remembered (cc)) in
    filled _ _ _ c.in_ok-head.head.bytes.items first.0 more.0 c.fill.new.bytes.items c.in_ok-head.head.end _ _ _ first.1 first.2.0 first.2.1 (subst (λ n. c.in_ok-head.head.end ≤ n) c.in_ok-head.head.bytes.ok.0 c.in_ok-head.ensures.within.0) announces more.1 more.2)
    (subst (λ n. n < c.in_ok-head.head.end + c.in_ok-announced.announced.body_length) c.fill.new.bytes.ok.0 c.in_err-fill.ensures.short))

pub returns-in_err-fill-clause-end : goal.returns-in_err-fill-clause-end
returns-in_err-fill-clause-end g c =
    let p = err_from_is_err_and c.from_residual-in_err-fill.result c.from_residual-in_err-fill.ensures.1 in
    rw (p.1, p.2) (fill_end c.in_err-fill.field-0.0 _ c.in_err-fill.ensures.end)

pub returns-in_err-fill-clause-whole : goal.returns-in_err-fill-clause-whole
returns-in_err-fill-clause-whole g c = whole_of _ _ _ (returns-in_err-fill-clause-given g c) (returns-in_err-fill-clause-end g c)

pub returns-in_err-ask-clause-given : goal.returns-in_err-ask-clause-given
returns-in_err-ask-clause-given g c =
    let first = c.in_ok-head.ensures.given (λ e. cc) in
    let more = c.in_ok-fill.ensures.given (λ e. cc) in
    let announces = subst (λ l. AnswersFront (take c.in_ok-head.head.end l) (Ok c.in_ok-announced.announced)) c.deref.ensures.value c.in_ok-announced.ensures.answered in
    let p = err_from_is_err_and c.from_residual-in_err-ask.result c.from_residual-in_err-ask.ensures.1 in
    rw (p.1, p.2) (ask_given c.in_err-ask.field-0.0 _ _ c.fill.new.bytes.items _ c.in_ok-head.head.end c.in_ok-announced.announced.body_length c.in_ok-announced.announced.caller c.in_ok-announced.announced.question
    (filled _ _ _ c.in_ok-head.head.bytes.items first.0 more.0 c.fill.new.bytes.items c.in_ok-head.head.end _ _ _ first.1 first.2.0 first.2.1 (subst (λ n. c.in_ok-head.head.end ≤ n) c.in_ok-head.head.bytes.ok.0 c.in_ok-head.ensures.within.0) announces more.1 more.2)
    (subst (λ n. c.in_ok-head.head.end + c.in_ok-announced.announced.body_length ≤ n) c.fill.new.bytes.ok.0 c.in_ok-fill.ensures.ok) (part_is c.deref-2.result.now c.fill.new.bytes.items c.in_ok-head.head.end c.in_ok-announced.announced.body_length c.deref-2.ensures.value) c.in_err-ask.ensures.asked)

pub returns-in_err-ask-clause-end : goal.returns-in_err-ask-clause-end
returns-in_err-ask-clause-end g c =
    let p = err_from_is_err_and c.from_residual-in_err-ask.result c.from_residual-in_err-ask.ensures.1 in
    rw (p.1, p.2) (λ e. absurd (ask_uncut c.in_err-ask.field-0.0 _ _ c.in_err-ask.ensures.asked e))

pub returns-in_err-ask-clause-whole : goal.returns-in_err-ask-clause-whole
returns-in_err-ask-clause-whole g c = whole_of _ _ _ (returns-in_err-ask-clause-given g c) (returns-in_err-ask-clause-end g c)

pub returns-clause-given : goal.returns-clause-given
returns-clause-given g c =
    let first = c.in_ok-head.ensures.given (λ e. cc) in
    let more = c.in_ok-fill.ensures.given (λ e. cc) in
    let announces = subst (λ l. AnswersFront (take c.in_ok-head.head.end l) (Ok c.in_ok-announced.announced)) c.deref.ensures.value c.in_ok-announced.ensures.answered in
    heard_given _ _ c.fill.new.bytes.items _ c.truncate.new.self.items c.in_ok-head.head.end c.in_ok-announced.announced.body_length c.in_ok-announced.announced.caller c.in_ok-announced.announced.question c.in_ok-ask.ask
    (filled _ _ _ c.in_ok-head.head.bytes.items first.0 more.0 c.fill.new.bytes.items c.in_ok-head.head.end _ _ _ first.1 first.2.0 first.2.1 (subst (λ n. c.in_ok-head.head.end ≤ n) c.in_ok-head.head.bytes.ok.0 c.in_ok-head.ensures.within.0) announces more.1 more.2)
    (subst (λ n. c.in_ok-head.head.end + c.in_ok-announced.announced.body_length ≤ n) c.fill.new.bytes.ok.0 c.in_ok-fill.ensures.ok) (part_is c.deref-2.result.now c.fill.new.bytes.items c.in_ok-head.head.end c.in_ok-announced.announced.body_length c.deref-2.ensures.value) c.truncate.ensures.items c.in_ok-ask.ensures.asked

pub returns-clause-whole : goal.returns-clause-whole
returns-clause-whole g c = whole_of _ _ _ (returns-clause-given g c) (λ e. absurd (cc))
