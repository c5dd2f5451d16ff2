use Rattle.bag_folders.specs.Packing.{IsPacked, MayBeRefused}
use Rattle.program.proofs.AnswerLemmas.{either}
use Rattle.program.proofs.folders.pack_folder.Goals as goal

pub returns-in-Ok-clause-said : goal.returns-in-Ok-clause-said
returns-in-Ok-clause-said g c =
    (c.pack.result, c.in-Ok.said, either c.pack.result IsPacked MayBeRefused c.pack.ensures.packed c.pack.ensures.refused, c.in-Ok.ensures.said, c.outcome_of.ensures)
