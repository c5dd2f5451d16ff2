use Rattle.bag_check.proofs.Common.{◌≡◌, ◌+◌, drop, files_of, payload_files, payload_bytes}
use Rattle.bag_check.proofs.payload.count_files.Given as goal

abbrev pub invariant-loop-file : goal.invariant-loop-file
invariant-loop-file l =
    (l.count + payload_files (files_of (drop l.file-index l.files)) ≡ payload_files (files_of l.files))
    × (l.bytes + payload_bytes (files_of (drop l.file-index l.files)) ≡ payload_bytes (files_of l.files))
