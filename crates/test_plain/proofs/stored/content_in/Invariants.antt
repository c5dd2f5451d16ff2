use Rattle.test_plain.proofs.Common.{◌≡◌, drop, files_of}
use Rattle.bag_text.specs.TransferForm.{content_at}
use Rattle.test_plain.proofs.stored.content_in.Given as goal

abbrev pub invariant-loop-file : goal.invariant-loop-file
invariant-loop-file l = content_at (files_of (drop l.file-index l.files)) l.path ≡ content_at (files_of l.files) l.path
