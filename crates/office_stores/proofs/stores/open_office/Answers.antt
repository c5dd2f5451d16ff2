use Rattle.office_stores.proofs.Common.{inl, refl}
use Rattle.std.proofs.lemmas.Result.{err_from_is_err_and}
use Rattle.office_stores.proofs.FileLemmas.{opened_from, unhad}
use Rattle.office_stores.proofs.stores.open_office.Goals as goal

pub returns-in_err-is_new-clause-unhad : goal.returns-in_err-is_new-clause-unhad
returns-in_err-is_new-clause-unhad g c =
    let p = err_from_is_err_and c.from_residual.result c.from_residual.ensures.1 in
    rw (p.1, p.2) (c.in_err-is_new.ensures.failure, inl (c.in_err-is_new.ensures.missing, refl))

pub returns-in-Ok-clause-opened : goal.returns-in-Ok-clause-opened
returns-in-Ok-clause-opened g c =
    opened_from _ _ c.args.makes c.in_ok-is_new.is_new c.in-Ok.conn c.office_of.result c.in_ok-is_new.ensures.allowed c.in-Ok.ensures.opened c.in-Ok.ensures.found c.office_of.ensures.is

pub returns-in-Ok-clause-unhad : goal.returns-in-Ok-clause-unhad
returns-in-Ok-clause-unhad g c = unhad c.office_of.result _ c.args.makes c.office_of.ensures.failure c.office_of.ensures.not_sought
