use Rattle.http_desk.proofs.Lemmas.{one_record}
use Rattle.http_desk.proofs.laws.one_reading.Goals as goal

pub returns : goal.returns
returns c = one_record
