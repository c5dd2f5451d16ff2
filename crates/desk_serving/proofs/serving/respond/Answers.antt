use Rattle.std.proofs.lemmas.Option.{IfSome_then}
use Rattle.desk_serving.proofs.ServingLemmas.{if_ok, is_answered, unnoted_served}
use Rattle.desk_serving.proofs.serving.respond.Goals as goal

pub returns-clause-answered : goal.returns-clause-answered
returns-clause-answered g c =
    let noting = c.respond_noting-answered in
    if_ok noting.result.0 noting.ensures.answered
    (λ response it. (it.0, it.1, is_answered g.S.Store c.args.office.now noting.new.office c.args.day it.0 response.bytes.items response.done noting.result.1 it.2, it.3))

pub returns-clause-served : goal.returns-clause-served
returns-clause-served g c e = let it = c.respond_noting-answered.ensures.served e in (it.0, it.1, it.2, it.3.0)

pub returns-clause-whole : goal.returns-clause-whole
returns-clause-whole g c =
    let noting = c.respond_noting-answered in
    IfSome_then _ noting.ensures.whole
    (λ input it. if_ok noting.result.0 it (λ response it. is_answered g.S.Store c.args.office.now noting.new.office c.args.day input response.bytes.items response.done noting.result.1 it))

pub returns-clause-whole_served : goal.returns-clause-whole_served
returns-clause-whole_served g c e = unnoted_served g.S.Store c.args.office.now c.respond_noting-answered.new.office c.args.day c.respond_noting-answered.result.1 _ (c.respond_noting-answered.ensures.whole_served e)
