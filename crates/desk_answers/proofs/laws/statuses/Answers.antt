use Rattle.desk_answers.proofs.LawLemmas.{refused_code, accepted_code, desk_code}
use Rattle.desk_answers.proofs.laws.statuses.Goals as goal

pub returns : goal.returns
returns c = record { refused = refused_code; accepted = accepted_code; of_the_desk = desk_code }
