use Rattle.fault_words.proofs.Common.{append_assoc, has_written_of_eq}
use Rattle.fault_words.proofs.manifest_line.BadPathLineDisplay.fmt.Goals as goal

pub returns-clause-writes : goal.returns-clause-writes
returns-clause-writes g c = λ plain ok. has_written_of_eq _ _ _ _ _ (simp append_assoc) (c.write.ensures.writes plain ok)
