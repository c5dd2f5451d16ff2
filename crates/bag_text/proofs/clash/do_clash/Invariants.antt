use Rattle.bag_text.proofs.Lemmas.{◌≡◌, drop, map, list_any, clashes, file_of, files_of, clash_at}
use Rattle.bag_text.proofs.clash.do_clash.Given as goal

abbrev pub invariant-loop-file : goal.invariant-loop-file
invariant-loop-file l = list_any (clash_at (files_of l.files)) (map file_of (drop l.file-index l.files)) ≡ clashes (files_of l.files)
