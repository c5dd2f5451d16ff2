use Rattle.bag_folders.proofs.Common.{◌≡◌, map, take, filter_map, folder_of}
use Rattle.bag_folders.proofs.making.needed_folders.Given as goal

abbrev pub invariant-loop-file : goal.invariant-loop-file
invariant-loop-file l = map (λ folder. folder.now) l.folders.items ≡ filter_map (λ file. folder_of file.0.now) (take l.file-index l.files)
