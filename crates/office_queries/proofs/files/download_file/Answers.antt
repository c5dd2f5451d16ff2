use Rattle.office_queries.proofs.Lemmas.{refl, visit_on, answered_after, refused_after}
use Rattle.office_core.specs.declared.request.Request.TheVariants as requests
use Rattle.office_queries.proofs.files.download_file.Goals as goal

pub returns-in-Ok-clause-serves : goal.returns-in-Ok-clause-serves
returns-in-Ok-clause-serves g c =
    answered_after (visit_on c.args.day c.args.caller.now) (requests.DownloadFile c.args.number c.args.path) c.in_ok-kept_deposit.ensures.inside c.in_ok-kept_deposit.ensures.reads c.in-Ok.is c.stored_file.ensures.inside (λ t. refl) c.stored_file.ensures.reads

pub returns-clause-serves : goal.returns-clause-serves
returns-clause-serves g c = refused_after (visit_on c.args.day c.args.caller.now) (requests.DownloadFile c.args.number c.args.path) c.in_ok-kept_deposit.ensures.inside c.in_ok-kept_deposit.ensures.reads c.in-Err.is
