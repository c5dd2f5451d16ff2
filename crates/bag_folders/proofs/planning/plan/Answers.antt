use Rattle.bag_folders.proofs.Lemmas.{List, subst, err_from_is_err_and, Listed, AllFilesOf, HasNoForm, plan_refused}
use Rattle.bag_folders.proofs.planning.plan.Goals as goal

pub returns-in_err-judge-clause-refused : goal.returns-in_err-judge-clause-refused
returns-in_err-judge-clause-refused c =
    let p = err_from_is_err_and c.from_residual.result c.from_residual.ensures.1 in
    let refused = subst (λ (ls : List Listed). AllFilesOf ls (λ files. HasNoForm files c.in_err-judge.field-0.0)) c.as_slice.ensures.value c.in_err-judge.ensures.refused in
    rw (p.1, p.2) (plan_refused c.args.found c.in_order-files.result.items c.in_err-judge.field-0.0 c.in-None.is c.in_order-files.ensures refused)
