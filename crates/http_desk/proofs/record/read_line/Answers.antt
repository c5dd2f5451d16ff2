use Rattle.http_desk.proofs.Lemmas.{◌≡◌, ℕ, ◌-◌, Some, true, List, length, take, drop, sym, ap, ◌∙◌, refl, arith, take_all, length-drop, common_steps, Date, has_marks, length_of, line_marks, line_day, line_count, marked_line}
use Rattle.std.proofs.lemmas.Option.{none-some, same_Some}
use Rattle.http_desk.proofs.record.read_line.Goals as goal

tail_of : (line : List ℕ) → take (length line - 15) (drop 15 line) ≡ drop 15 line
tail_of line = take_all (length line - 15) (drop 15 line) (simp length-drop (omega arith))

same_pair : (a b : Date) (m n : ℕ) → a ≡ b → m ≡ n → ◌≡◌ {A = Date × ℕ} (a, m) (b, n)
same_pair a b m n e f = rw (e, f) refl

pub returns-then-not-has_marks-clause-only : goal.returns-then-not-has_marks-clause-only
returns-then-not-has_marks-clause-only c = λ day count is e.
    let m = line_marks c.args.line.now day count is e in
    let t = c.if-not-has_marks.true in
    let r = c.has_marks.ensures in absurd (grind (arith, common_steps))

pub returns-in_err-day-clause-only : goal.returns-in_err-day-clause-only
returns-in_err-day-clause-only c = λ day count is e.
    absurd (none-some _ (sym (c.in_err-day.was {u = tt}) ∙ c.read_day.ensures.only day is.0 (line_day c.args.line.now day count e)))

pub returns-in_err-count-clause-only : goal.returns-in_err-count-clause-only
returns-in_err-count-clause-only c = λ day count is e.
    absurd (none-some _ (sym (c.in_err-count.was {u = tt}) ∙ c.read_length.ensures.value ∙ ap length_of (tail_of c.args.line.now) ∙ line_count c.args.line.now day count is.1 e))

pub returns-clause-written : goal.returns-clause-written
returns-clause-written c =
    let marks : has_marks c.args.line.now ≡ true = let t = c.if-not-has_marks.false in let r = c.has_marks.ensures in grind (arith, common_steps) in
    let day = (c.in_ok-day.ensures {u = tt}).written in
    let count : length_of (drop 15 c.args.line.now) ≡ Some c.in_ok-count.count = sym (ap length_of (tail_of c.args.line.now)) ∙ sym c.read_length.ensures.value ∙ c.in_ok-count.was {u = tt} in
    let line = marked_line c.args.line.now c.in_ok-day.day c.in_ok-count.count marks day.1 count in
    ((day.0, line.1), line.0)

pub returns-clause-only : goal.returns-clause-only
returns-clause-only c = λ day count is e.
    ap Some (same_pair c.in_ok-day.day day c.in_ok-count.count count
    (same_Some _ _ (sym (c.in_ok-day.was {u = tt}) ∙ c.read_day.ensures.only day is.0 (line_day c.args.line.now day count e)))
    (same_Some _ _ (sym (c.in_ok-count.was {u = tt}) ∙ c.read_length.ensures.value ∙ ap length_of (tail_of c.args.line.now) ∙ line_count c.args.line.now day count is.1 e)))
