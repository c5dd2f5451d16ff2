use Rattle.office_engine.proofs.OtherBytes.{bag_under, file_under}
use Rattle.office_engine.proofs.laws.bytes_are_downloaded_under_their_digest.Goals as goal

pub returns : goal.returns
returns c = record {
  file = λ db visit n path bytes office told. file_under db office (c.files_have_their_contents.ensures.there db office) visit n path bytes told.0 told.1;
  bag = λ db visit n bytes office told. bag_under db office (c.files_have_their_contents.ensures.there db office) visit n bytes told.0 told.1;
}
