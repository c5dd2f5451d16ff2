use Rattle.office_core.proofs.Lemmas.{◌≡◌, ◌∙◌, sym, ap, arith, Some, refl, false, ℕ, is_some, false≢true, IfSome_then, none-some, signed_arith, day_text, day_parts, same_date, text_of_parts, parts_of-day, parts_are, text_are, date_is}
use Rattle.office_core.proofs.day.read_day.Goals as goal

pub returns-clause-written : goal.returns-clause-written
returns-clause-written c =
    let p : ℕ × ℕ × ℕ × ℕ = (c.in_ok-century.century, c.in_ok-century.year, c.in_ok-century.month, c.in_ok-century.day) in
    let text = text_of_parts c.as_bytes.result.now p (sym c.parts.ensures.value ∙ c.in_ok-century.was {u = tt}) in
    let same = text_are c.in_ok-date_of.field-0 p ((c.in_ok-century.ensures {u = tt}).bound.1) ((c.in_ok-date_of.ensures {u = tt}).value) in
    IfSome_then c.of_date.result c.of_date.ensures.value
    (λ day e. (e.0, sym c.as_bytes.ensures.value ∙ text ∙ same ∙ ap day_text (sym e.1)))

pub returns-in_err-century-clause-only : goal.returns-in_err-century-clause-only
returns-in_err-century-clause-only c = λ day h e.
    absurd (none-some _ (sym (c.in_err-century.was {u = tt}) ∙ c.parts.ensures.value ∙ ap day_parts (c.as_bytes.ensures.value ∙ e) ∙ parts_of-day day h))

pub returns-in_err-date_of-clause-only : goal.returns-in_err-date_of-clause-only
returns-in_err-date_of-clause-only c = λ day h e.
    let p : ℕ × ℕ × ℕ × ℕ = (c.in_ok-century.century, c.in_ok-century.year, c.in_ok-century.month, c.in_ok-century.day) in
    let are = parts_are day p h (sym (c.in_ok-century.was {u = tt}) ∙ c.parts.ensures.value ∙ ap day_parts (c.as_bytes.ensures.value ∙ e)) in
    let none : is_some c.date_of.result ≡ false = rw (c.in_err-date_of.was {u = tt}) refl in
    absurd (false≢true (sym none ∙ c.date_of.ensures.only (date_is day _ _ _ are.0 are.1 are.2)))

pub returns-clause-only : goal.returns-clause-only
returns-clause-only c = λ day h e.
    let p : ℕ × ℕ × ℕ × ℕ = (c.in_ok-century.century, c.in_ok-century.year, c.in_ok-century.month, c.in_ok-century.day) in
    let are = parts_are day p h (sym (c.in_ok-century.was {u = tt}) ∙ c.parts.ensures.value ∙ ap day_parts (c.as_bytes.ensures.value ∙ e)) in
    let date = c.in_ok-date_of.field-0 in
    let is = (c.in_ok-date_of.ensures {u = tt}).value in
    let same : date ≡ day = same_date date day (is.0 ∙ sym are.0) (omega (arith, signed_arith, is.1, are.1)) (omega (arith, signed_arith, is.2, are.2)) in
    c.of_date.ensures.only (rw same h) ∙ ap Some same
