use Rattle.office_core.proofs.Lemmas.{ap, Date, last_day, same_date}
use Rattle.office_core.proofs.day.Day.last.Goals as goal

pub returns : goal.returns
returns c =
    let is = c.of_plain.ensures in
    same_date c.of_plain.result last_day (ap (λ (d : Date). d.year) is) (ap (λ (d : Date). d.month) is) (ap (λ (d : Date). d.day) is)
