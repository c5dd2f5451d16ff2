use Rattle.office_history.proofs.Lemmas.{[], ◌∷◌, refl, Installed, run_grows, later_still}
use Rattle.office_history.proofs.laws.runs_only_add.Goals as goal

pub returns-clause-runs : goal.returns-clause-runs
returns-clause-runs c = λ h next items given r. run_grows items given h next r

pub returns-clause-installs : goal.returns-clause-installs
returns-clause-installs c = λ h policy. (Installed policy ∷ [], refl)

pub returns-clause-further : goal.returns-clause-further
returns-clause-further c = later_still
