use Rattle.office_queries.proofs.Lemmas.{refl, in_turn, visit_on, answered_after, refused_after}
use Rattle.office_core.specs.declared.request.Request.TheVariants as requests
use Rattle.office_queries.proofs.bags.download_bag.Goals as goal

pub returns-in-Ok-clause-serves : goal.returns-in-Ok-clause-serves
returns-in-Ok-clause-serves g c =
    answered_after (visit_on c.args.day c.args.caller.now) (requests.DownloadBag c.args.number) c.in_ok-kept_deposit.ensures.inside c.in_ok-kept_deposit.ensures.reads c.in-Ok.is (in_turn c.stored_bag.ensures.inside) (λ t. refl) c.stored_bag.ensures.reads

pub returns-clause-serves : goal.returns-clause-serves
returns-clause-serves g c = refused_after (visit_on c.args.day c.args.caller.now) (requests.DownloadBag c.args.number) c.in_ok-kept_deposit.ensures.inside c.in_ok-kept_deposit.ensures.reads c.in-Err.is
