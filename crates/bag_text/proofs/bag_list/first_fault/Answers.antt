use Rattle.bag_text.proofs.Lemmas.{[], rules, file_of, files_of, fault_from, passed, met, none_left}
use Rattle.bag_text.proofs.bag_list.first_fault.Goals as goal

pub returns-in-Some : goal.returns-in-Some
returns-in-Some c = met file_of c.loop-file.position c.loop-file.before.now c.args.files.now c.loop-file.file-index _ c.fault_at.result (fault_from 0 [] (files_of c.args.files.now)) c.in-Some.fault c.loop-file-test.true c.fault_at.ensures c.in-Some.is c.loop-file.invariant.1

pub loop-file-preserved : goal.loop-file-preserved
loop-file-preserved c = (search rules, rw c.as_bytes-before.ensures.value (passed file_of c.loop-file.position c.loop-file.before.now c.args.files.now c.loop-file.file-index _ c.fault_at.result (fault_from 0 [] (files_of c.args.files.now)) c.loop-file-test.true c.fault_at.ensures c.in_default.is c.loop-file.invariant.1))

pub returns : goal.returns
returns c = none_left file_of c.loop-file.position c.loop-file.before.now c.args.files.now c.loop-file.file-index (fault_from 0 [] (files_of c.args.files.now)) c.loop-file-test.false c.loop-file.invariant.1
