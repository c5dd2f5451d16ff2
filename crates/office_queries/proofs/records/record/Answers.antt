use Rattle.office_queries.proofs.Lemmas.{refl, in_turn, visit_on, answered_by_row, refused_after}
use Rattle.office_core.specs.declared.request.Request.TheVariants as requests
use Rattle.office_queries.proofs.records.record.Goals as goal

pub returns-in-Ok-clause-serves : goal.returns-in-Ok-clause-serves
returns-in-Ok-clause-serves g c =
    answered_by_row (visit_on c.args.day c.args.caller.now) (requests.Record c.args.number) c.args.number c.in_ok-row.ensures.inside c.in_ok-row.ensures.reads c.in_ok-row.ensures.row c.in-Ok.is (in_turn c.stored_record.ensures.inside) (λ t. refl) c.stored_record.ensures.reads

pub returns-in-Err-clause-serves : goal.returns-in-Err-clause-serves
returns-in-Err-clause-serves g c = refused_after (visit_on c.args.day c.args.caller.now) (requests.Record c.args.number) c.in_ok-row.ensures.inside c.in_ok-row.ensures.reads c.in-Err.is
