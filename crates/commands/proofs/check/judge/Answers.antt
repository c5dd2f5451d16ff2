use Rattle.commands.proofs.Lemmas.{List, ℕ, subst, take, SaysOfBytes, bytes_to_read, of_known}
use Rattle.commands.proofs.check.judge.Goals as goal

pub returns-clause-says : goal.returns-clause-says
returns-clause-says g c =
    let says = subst (λ (bytes : List ℕ). SaysOfBytes bytes c.in_ok-check_outcome.field-0) c.as_slice.ensures.value c.in_ok-check_outcome.ensures.says in
    (c.in_ok-bytes.bytes.items, (c.in_ok-bytes.ensures.consumed, c.in_ok-bytes.ensures.most), says)

pub returns-clause-given : goal.returns-clause-given
returns-clause-given g c =
    let says = subst (λ (bytes : List ℕ). SaysOfBytes bytes c.in_ok-check_outcome.field-0) c.as_slice.ensures.value c.in_ok-check_outcome.ensures.says in
    of_known (g.R.Read.remaining c.args.form.now) c.in_ok-bytes.bytes.items (take bytes_to_read) (λ bytes. SaysOfBytes bytes c.in_ok-check_outcome.field-0) c.in_ok-bytes.ensures.given says
