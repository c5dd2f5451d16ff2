use Rattle.http_desk.proofs.Lemmas.{sym, subst, IsUtf8, day_text-utf8}
use Rattle.http_desk.proofs.record.read_day.Goals as goal

pub returns-in-Err-clause-only : goal.returns-in-Err-clause-only
returns-in-Err-clause-only c = λ day is e. absurd (c.in-Err.ensures.cases.0 (subst (λ l. IsUtf8 l) (sym e) (day_text-utf8 day is)))
