use Rattle.bag_folders.specs.Unpacking.{IsUnpacked, MayBeUnreadable}
use Rattle.program.proofs.AnswerLemmas.{either}
use Rattle.program.proofs.folders.unpack_form.Goals as goal

pub returns-in-Ok-clause-said : goal.returns-in-Ok-clause-said
returns-in-Ok-clause-said g c =
    (c.unpack.result, c.in-Ok.said, either c.unpack.result IsUnpacked MayBeUnreadable c.unpack.ensures.unpacked c.unpack.ensures.refused, c.in-Ok.ensures.said, c.outcome_of.ensures)
