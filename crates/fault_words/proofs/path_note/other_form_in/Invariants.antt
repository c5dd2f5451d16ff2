use Rattle.fault_words.proofs.Common.{◌≡◌, drop, other_form}
use Rattle.bag_text.specs.TransferReading.{files_of}
use Rattle.fault_words.proofs.path_note.other_form_in.Given as goal

abbrev pub invariant-loop-file : goal.invariant-loop-file
invariant-loop-file l = other_form (files_of (drop l.file-index l.files)) l.path ≡ other_form (files_of l.files) l.path
