use Rattle.office_core.proofs.Lemmas.{arith, ◌≡◌, w32, FitsSigned, refl, to_z-of_z, signed_arith, epoch_day, number_day}
use Rattle.office_core.proofs.day.Day.new.Goals as goal

pub returns-clause-range : goal.returns-clause-range
returns-clause-range c =
    let fits : FitsSigned w32 c.args.number = c.ranges.number in
    let date = c.in_ok-date_at.field-0 in
    let value : epoch_day date ≡ c.args.number = simp to_z-of_z at (c.in_ok-date_at.ensures {u = tt}) in
    (λ some. (omega (arith, signed_arith), omega (arith, signed_arith)), λ is. rw (c.of_date.ensures.only (number_day date (rw value is))) refl)
