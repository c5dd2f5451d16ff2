use Rattle.office_engine.proofs.OtherBytes.{bag_served, file_served}
use Rattle.office_engine.proofs.laws.altered_bytes_are_never_downloaded.Goals as goal

pub returns : goal.returns
returns c = record {
  file = λ db altered h visit n path bytes legal pictured differs told. file_served db altered h legal pictured differs c.refusals_are_exact.ensures c.files_are_exact.ensures visit n path bytes told.0 told.1;
  bag = λ db altered h visit n bytes legal pictured differs told. bag_served db altered h legal pictured differs c.refusals_are_exact.ensures c.files_are_exact.ensures visit n bytes told.0 told.1;
}
