use Rattle.desk_answers.proofs.Common.{sym}
use Rattle.std.proofs.lemmas.Result.{IfOk-weaker}
use Rattle.desk_answers.proofs.head.head.Goals as goal

pub returns : goal.returns
returns c = IfOk-weaker c.format.result _ _ (λ s h. rw (sym c.as_str-kind.ensures) h) c.format.ensures.ok
