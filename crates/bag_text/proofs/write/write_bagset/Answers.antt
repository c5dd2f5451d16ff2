use Rattle.bag_text.proofs.Lemmas.{files_of, reads_back, writes_back}
use Rattle.bag_text.proofs.write.write_bagset.Goals as goal

pub returns-clause-read : goal.returns-clause-read
returns-clause-read c = reads_back (λ (text : _). text.items) (files_of c.files.result.now) c.args.bag.now c.write_files.result c.files.ensures.whole c.files.ensures.bag c.write_files.ensures

pub returns-clause-written : goal.returns-clause-written
returns-clause-written c = writes_back (λ (text : _). text.items) (files_of c.files.result.now) c.args.bag.now c.write_files.result c.files.ensures.whole c.write_files.ensures
