use Rattle.bag_folders.proofs.Common.{AllZip, IsToldOf}
use Rattle.bag_folders.proofs.folders.told_entries.Given as goal

abbrev pub invariant-loop-name : goal.invariant-loop-name
invariant-loop-name g l = AllZip (IsToldOf l.folder) l.yielded l.entries.items
