use Rattle.desk_forms.proofs.PathLemmas.{decoded_iff_means}
use Rattle.desk_forms.proofs.laws.decoded_paths.Goals as goal

pub returns : goal.returns
returns c = decoded_iff_means
