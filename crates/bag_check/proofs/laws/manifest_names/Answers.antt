use Rattle.bag_check.proofs.NameLemmas.{name_is, name_again}
use Rattle.bag_check.proofs.BagLemmas.{is_payload_is, is_payload_again}
use Rattle.bag_check.proofs.laws.manifest_names.Goals as goal

pub returns-clause-manifest : goal.returns-clause-manifest
returns-clause-manifest c = λ kind alg name. (name_is name kind alg, name_again name kind alg)

pub returns-clause-payload : goal.returns-clause-payload
returns-clause-payload c = λ path. (is_payload_is path, is_payload_again path)
