use Rattle.bag_text.proofs.Common.{◌≡◌, ◌++◌, drop, map, flat_map, entry, file_of, files_of}
use Rattle.bag_text.proofs.write.write_entries.Given as goal

abbrev pub invariant-loop-file : goal.invariant-loop-file
invariant-loop-file l = l.text.items ++ flat_map entry (map file_of (drop l.file-index l.files)) ≡ l.fn.text.items ++ flat_map entry (files_of l.files)
