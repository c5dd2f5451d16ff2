use Rattle.bag_folders.proofs.Common.{◌≡◌, map, take, files_of, emptied}
use Rattle.bag_folders.proofs.sizes.without_contents.Given as goal

abbrev pub invariant-loop-file : goal.invariant-loop-file
invariant-loop-file l = files_of l.list.items ≡ map emptied (take l.file-index l.files)
