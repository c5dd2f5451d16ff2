use Rattle.test_plain.proofs.reading.due.Goals as goal

pub returns-in-Some : goal.returns-in-Some
returns-in-Some c = rw (← c.deposit.view_is, ← c.as_str.ensures.text, ← c.years_of.ensures, c.in-Some.is) c.due.ensures.exact
