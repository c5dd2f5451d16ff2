use Rattle.office_core.proofs.Lemmas.{arith, signed_arith, day_number}
use Rattle.office_core.proofs.day.Day.number.Goals as goal

pub returns-clause-range : goal.returns-clause-range
returns-clause-range c =
    let bound = day_number c.self.inside.date c.self.invariant in
    (omega (arith, signed_arith, bound.0, c.number.ensures), omega (arith, signed_arith, bound.1, c.number.ensures))
