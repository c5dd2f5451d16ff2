use Rattle.desk_forms.proofs.SayingLemmas.{one_json, one_years, one_hold}
use Rattle.desk_forms.proofs.laws.one_body.Goals as goal

pub returns-clause-json : goal.returns-clause-json
returns-clause-json c = one_json

pub returns-clause-years : goal.returns-clause-years
returns-clause-years c = one_years

pub returns-clause-hold : goal.returns-clause-hold
returns-clause-hold c = one_hold
