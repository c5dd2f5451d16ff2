use Rattle.desk_hearing.proofs.RequestLemmas.{heard_spells, spelled_hears}
use Rattle.desk_hearing.proofs.laws.spelled_requests.Goals as goal

pub returns : goal.returns
returns c = λ input heard. (heard_spells input heard, spelled_hears input heard)
