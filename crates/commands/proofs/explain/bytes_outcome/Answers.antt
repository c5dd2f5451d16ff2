use Rattle.commands.proofs.Lemmas.{subst, IsRead, refusal_is_explained}
use Rattle.commands.proofs.explain.bytes_outcome.Goals as goal

-- What is said of a file that is no policy explains its bytes.
pub returns-in-Err : goal.returns-in-Err
returns-in-Err c =
    refusal_is_explained c.args.bytes.now c.args.asked.now c.in-Err.refused c.refused_outcome.result
    (subst (IsRead c.args.bytes.now) c.in-Err.is c.in_ok-policy.ensures) c.refused_outcome.ensures
