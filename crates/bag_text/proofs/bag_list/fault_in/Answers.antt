use Rattle.bag_text.proofs.Lemmas.{files_of, ascends}
use Rattle.bag_text.proofs.bag_list.fault_in.Goals as goal

-- files without fault ascend
pub do_clash-requires : goal.do_clash-requires
do_clash-requires c = ascends (files_of c.args.files.now) c.first_fault.result c.first_fault.ensures c.in-None.is
