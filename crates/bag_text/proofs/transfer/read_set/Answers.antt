use Rattle.bag_text.proofs.Lemmas.{[], List, length, sym, ap, subst, File, Ascends, max_files, files_of, files_ok}
use Rattle.bag_text.proofs.transfer.read_set.Goals as goal

-- the files that were read ascend
pub do_clash-requires : goal.do_clash-requires
do_clash-requires c =
    let read = files_ok (length c.args.text.now) max_files [] c.in_ok-body.body.now (files_of c.in_ok-files.files.items) c.in_ok-files.ensures in
    subst (λ (fs : List File). Ascends [] fs) (ap files_of (sym c.deref.ensures.value)) read.up
