use Rattle.office_access.proofs.Lemmas.{rules, ◌≡◌, ℕ, ◌+◌, ◌<◌, ◌≤◌, Some, None, unwrap_or, sym, ap, ◌∙◌, arith, true, false, ◌>>=◌, answer_if, Full, count_back}
use Rattle.std.specs.Prelude.{nat_le}
use Rattle.std.proofs.lemmas.Bool.Decides.{nat_tests}
use Rattle.office_access.proofs.limits.number_after.Goals as goal

is_full : (count limit : ℕ) → limit ≤ count → Some Full ≡ answer_if (nat_le limit count) Full
is_full count limit le = let over : nat_le limit count ≡ true = grind (arith, nat_tests, le) in sym (ap (λ b. answer_if b Full) over)

has_room : (count limit : ℕ) → count < limit → None ≡ answer_if (nat_le limit count) Full
has_room count limit lt = let under : nat_le limit count ≡ false = grind (arith, nat_tests, lt) in sym (ap (λ b. answer_if b Full) under)

pub returns-then-limit-last-clause-full : goal.returns-then-limit-last-clause-full
returns-then-limit-last-clause-full c =
    let last : c.unwrap_or-last.result ≡ unwrap_or c.args.last 0 = search rules in
    ap (λ o. o >>= λ last. Some (answer_if (nat_le c.args.limit (unwrap_or last 0)) Full)) (count_back c.args.last)
    ∙ ap Some (sym (is_full (unwrap_or c.args.last 0) c.args.limit (rw last at c.if-limit-last.true)))

pub returns-clause-full : goal.returns-clause-full
returns-clause-full c =
    let last : c.unwrap_or-last.result ≡ unwrap_or c.args.last 0 = search rules in
    ap (λ o. o >>= λ last. Some (answer_if (nat_le c.args.limit (unwrap_or last 0)) Full)) (count_back c.args.last)
    ∙ ap Some (sym (has_room (unwrap_or c.args.last 0) c.args.limit (rw last at c.if-limit-last.false)))

pub returns-clause-number : goal.returns-clause-number
returns-clause-number c =
    let last : c.unwrap_or-last.result ≡ unwrap_or c.args.last 0 = search rules in
    ap (λ o. o >>= λ last. Some (unwrap_or last 0 + 1)) (count_back c.args.last) ∙ ap (λ k. Some (k + 1)) (sym last)
