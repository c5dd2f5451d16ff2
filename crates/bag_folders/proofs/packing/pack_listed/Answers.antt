use Rattle.bag_folders.proofs.Lemmas.{◌≡◌, length, rules, err_from_is_err_and, is_any_declared, failed_under, form_under, is_packed_of, plan_under}
use Rattle.bag_folders.proofs.packing.pack_listed.Goals as goal

pub returns-in_err-found-clause-refused : goal.returns-in_err-found-clause-refused
returns-in_err-found-clause-refused g c =
    let p = err_from_is_err_and c.from_residual.result c.from_residual.ensures.1 in
    rw (p.1, p.2) (failed_under (g.F.Folders.lists c.args.folders.now) c.in_err-found.field-0.0)

pub returns-in_err-files-clause-refused : goal.returns-in_err-files-clause-refused
returns-in_err-files-clause-refused g c =
    let p = err_from_is_err_and c.from_residual-in_err-files.result c.from_residual-in_err-files.ensures.1 in
    rw (p.1, p.2) (plan_under _ c.in_ok-found.found c.in_err-files.field-0.0 c.in_ok-found.ensures.found c.in_err-files.ensures.refused)

pub returns-in_err-form-clause-refused : goal.returns-in_err-form-clause-refused
returns-in_err-form-clause-refused g c =
    let p = err_from_is_err_and c.from_residual-in_err-form.result c.from_residual-in_err-form.ensures.1 in
    rw (p.1, p.2) (form_under _ c.in_ok-found.found c.in_ok-files.files.items c.in_err-form.field-0.0 c.in_ok-found.ensures.found c.in_ok-files.ensures.order
    ((rw c.as_slice.ensures.value at c.in_err-form.ensures.refused) c.in_ok-files.ensures.bag))

pub returns-in_err-put-clause-refused : goal.returns-in_err-put-clause-refused
returns-in_err-put-clause-refused g c =
    let p = err_from_is_err_and c.from_residual-in_err-put.result c.from_residual-in_err-put.ensures.1 in
    rw (p.1, p.2) (failed_under (g.F.Folders.lists c.args.folders.now) c.in_err-put.field-0.0)

pub returns-clause-packed : goal.returns-clause-packed
returns-clause-packed g c =
    let count : c.len.result ≡ length c.in_ok-files.files.items = search rules in
    let bytes : c.len-2.result ≡ length c.in_ok-form.form.items = search rules in
    let declared : c.is_declared.result ≡ is_any_declared c.in_ok-files.files.items = search rules in (
      c.in_ok-found.found,
      c.in_ok-found.ensures.found,
      is_packed_of c.in_ok-found.found (record { files = c.len.result; bytes = c.len-2.result; is_declared = c.is_declared.result }) c.in_ok-files.files.items c.in_ok-form.form.items c.in_ok-files.ensures.order count bytes declared
          ((rw c.as_slice.ensures.value at c.in_ok-form.ensures.form) c.in_ok-files.ensures.bag),
    )
