use Rattle.bag_folders.proofs.Common.{◌≡◌, filter_map, slice_get, file_listed, odd_in}
use Rattle.bag_folders.proofs.listing.found_in.Given as goal

abbrev pub invariant-loop-entry : goal.invariant-loop-entry
invariant-loop-entry l = record {
  files : l.found.files.items ≡ filter_map file_listed l.yielded;
  odd : l.found.odd ≡ slice_get (filter_map odd_in l.yielded) 0;
}
