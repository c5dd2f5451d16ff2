use Rattle.office_core.proofs.Lemmas.{FitsSigned, w8, w16, to_z-of_z, some_ok}
use Rattle.office_core.proofs.day.civil_date.Goals as goal

pub returns-clause-only : goal.returns-clause-only
returns-clause-only c =
    let year : FitsSigned w16 c.args.year = c.ranges.year in
    let month : FitsSigned w8 c.args.month = c.ranges.month in
    let day : FitsSigned w8 c.args.day = c.ranges.day in
    λ is. some_ok c.ok.result c.new.result c.ok.ensures.value (c.new.ensures.succeeds.1 (simp to_z-of_z is))
