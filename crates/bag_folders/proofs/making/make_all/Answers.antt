use Rattle.bag_folders.proofs.Lemmas.{err_from_is_err_and, failed_stops}
use Rattle.bag_folders.proofs.making.make_all.Goals as goal

pub returns-in_err-make_folders : goal.returns-in_err-make_folders
returns-in_err-make_folders g c =
    let p = err_from_is_err_and c.from_residual-in_err-make_folders.result c.from_residual-in_err-make_folders.ensures.1 in
    rw (p.1, p.2) (failed_stops c.in_err-make_folders.field-0.0)

pub returns-in_err-make_files : goal.returns-in_err-make_files
returns-in_err-make_files g c =
    let p = err_from_is_err_and c.from_residual-in_err-make_files.result c.from_residual-in_err-make_files.ensures.1 in
    rw (p.1, p.2) (failed_stops c.in_err-make_files.field-0.0)
