use Rattle.desk_serving.proofs.RefusalLemmas.{refused}
use Rattle.desk_serving.proofs.laws.refusals_change_nothing.Goals as goal

pub returns : goal.returns
returns g c = λ request reply refusal old new. refused g.S.Store reply.done request.day request.bytes reply.text refusal old new
