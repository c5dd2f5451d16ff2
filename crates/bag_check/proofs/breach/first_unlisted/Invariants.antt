use Rattle.bag_check.proofs.Lemmas.{◌≡◌, drop, files_of, unlisted}
use Rattle.bag_check.proofs.breach.first_unlisted.Given as goal

abbrev pub invariant-loop-file : goal.invariant-loop-file
invariant-loop-file l = unlisted l.rule l.manifest (files_of (drop l.file-index l.files)) ≡ unlisted l.rule l.manifest (files_of l.files)
