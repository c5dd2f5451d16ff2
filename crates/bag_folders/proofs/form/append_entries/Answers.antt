use Rattle.bag_folders.proofs.Common.{subst, Listed, AppendsEntry}
use Rattle.bag_folders.proofs.LoadLemmas.{entries_more}
use Rattle.bag_folders.proofs.form.append_entries.Goals as goal

pub loop-file-preserved : goal.loop-file-preserved
loop-file-preserved g c =
    let more = subst (λ (l : Listed). AppendsEntry l c.loop-file.form.items c.append_entry.new.form.items) c.file-item.is c.in_ok-append_entry.ensures in
    entries_more c.args.files.now c.loop-file.file-index c.file-item.result c.args.form.now.items c.loop-file.form.items c.append_entry.new.form.items c.loop-file-test.true c.loop-file.invariant more
