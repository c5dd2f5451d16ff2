use Rattle.commands.proofs.Lemmas.{List, ℕ, subst, Explains, of_known}
use Rattle.commands.proofs.explain.explain_policy.Goals as goal

-- What is said explains the bytes that were read.
pub returns-clause-says : goal.returns-clause-says
returns-clause-says g c =
    let explains = subst (λ (bytes : List ℕ). Explains bytes c.args.asked.now c.in_ok-bytes_outcome.field-0) c.as_slice.ensures.value c.in_ok-bytes_outcome.ensures in
    (c.in_ok-bytes.bytes.items, (c.in_ok-bytes.ensures.consumed, c.in_ok-bytes.ensures.end), explains)

-- Where what the reader holds is known, the bytes that were read are those.
pub returns-clause-given : goal.returns-clause-given
returns-clause-given g c =
    let explains = subst (λ (bytes : List ℕ). Explains bytes c.args.asked.now c.in_ok-bytes_outcome.field-0) c.as_slice.ensures.value c.in_ok-bytes_outcome.ensures in
    of_known (g.R.Read.remaining c.args.policy.now) c.in_ok-bytes.bytes.items (λ given. given) (λ bytes. Explains bytes c.args.asked.now c.in_ok-bytes_outcome.field-0) c.in_ok-bytes.ensures.given
    explains
