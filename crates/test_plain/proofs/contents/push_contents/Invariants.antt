use Rattle.test_plain.proofs.Common.{◌≡◌, ◌++◌, drop, files_of, texts, contents_of}
use Rattle.test_plain.proofs.contents.push_contents.Given as goal

abbrev pub invariant-loop-file : goal.invariant-loop-file
invariant-loop-file l = texts l.all.items ++ contents_of (files_of (drop l.file-index l.files)) ≡ texts l.fn.all.items ++ contents_of (files_of l.files)
