use Rattle.http_desk.proofs.Lemmas.{max_records, one_split}
use Rattle.http_desk.proofs.laws.one_list.Goals as goal

pub returns : goal.returns
returns c = λ input rest rest' xs ys s t. one_split max_records input rest rest' xs ys s t
