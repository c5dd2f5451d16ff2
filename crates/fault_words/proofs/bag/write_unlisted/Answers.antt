use Rattle.fault_words.proofs.Common.{append_assoc, has_written_of_eq}
use Rattle.fault_words.proofs.bag.write_unlisted.Goals as goal

pub returns : goal.returns
returns g c = rw (← c.name_and_path.ensures.manifest, ← c.name_and_path.ensures.path) (λ plain ok. has_written_of_eq _ _ _ _ _ (simp append_assoc) (c.write.ensures.writes plain ok))
