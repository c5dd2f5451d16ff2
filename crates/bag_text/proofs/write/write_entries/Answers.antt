use Rattle.bag_text.proofs.Lemmas.{◌++◌, flat_map, entry, file_of, files_of, wrote_more, wrote_all}
use Rattle.bag_text.proofs.write.write_entries.Goals as goal

pub loop-file-preserved : goal.loop-file-preserved
loop-file-preserved c = wrote_more file_of c.args.files.now c.loop-file.file-index _ c.loop-file.text.items c.write_entry.new.text.items (c.args.text.now.items ++ flat_map entry (files_of c.args.files.now)) c.loop-file-test.true c.in_ok-write_entry.ensures c.loop-file.invariant

pub returns : goal.returns
returns c = wrote_all file_of c.args.files.now c.loop-file.file-index c.loop-file.text.items (c.args.text.now.items ++ flat_map entry (files_of c.args.files.now)) c.loop-file-test.false c.loop-file.invariant
