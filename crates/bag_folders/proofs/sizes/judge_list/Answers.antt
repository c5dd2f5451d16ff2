use Rattle.bag_folders.proofs.Lemmas.{err_from_is_err_and, files_of, judged_ok, judged_err}
use Rattle.bag_folders.proofs.sizes.judge_list.Goals as goal

pub returns-in_err-of : goal.returns-in_err-of
returns-in_err-of c =
    let p = err_from_is_err_and c.from_residual.result c.from_residual.ensures.1 in
    rw (p.1, p.2) (judged_err (Unit {0}) (files_of c.args.list.now) c.in_err-of.field-0.0 c.in_err-of.ensures.fault)

pub returns : goal.returns
returns c = judged_ok (files_of c.args.list.now) c.in_ok-of.field-0 c.in_ok-of.ensures.made
