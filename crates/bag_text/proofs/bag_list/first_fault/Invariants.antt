use Rattle.bag_text.proofs.Common.{◌≡◌, [], drop, map, file_of, files_of, fault_from}
use Rattle.bag_text.proofs.bag_list.first_fault.Given as goal

abbrev pub invariant-loop-file : goal.invariant-loop-file
invariant-loop-file l = (l.position ≡ l.file-index) × (fault_from l.position l.before (map file_of (drop l.file-index l.files)) ≡ fault_from 0 [] (files_of l.files))
