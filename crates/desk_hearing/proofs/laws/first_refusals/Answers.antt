use Rattle.desk_hearing.proofs.RefusalLemmas.{refused_is, is_refused}
use Rattle.desk_hearing.proofs.laws.first_refusals.Goals as goal

pub returns : goal.returns
returns c = λ input refusal. (refused_is input refusal, is_refused input refusal)
