use Rattle.bag_folders.proofs.Common.{◌≡◌, ◌++◌, List, take, flat_map, File, entry, AreFilesOf}
use Rattle.bag_folders.proofs.form.append_entries.Given as goal

abbrev pub invariant-loop-file : goal.invariant-loop-file
invariant-loop-file g l = (list : List File) × AreFilesOf (take l.file-index l.files) list × (l.form.items ≡ l.fn.form.items ++ flat_map entry list)
