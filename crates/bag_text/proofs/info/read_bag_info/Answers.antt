use Rattle.bag_text.proofs.InfoLaws.{info_says, info_reads, info_refused, info_first}
use Rattle.bag_text.proofs.info.read_bag_info.Goals as goal

pub returns-clause-says : goal.returns-clause-says
returns-clause-says c = info_says c.args.text.now _ c.read_lines.ensures.value

pub returns-clause-reads : goal.returns-clause-reads
returns-clause-reads c = info_reads c.args.text.now _ c.read_lines.ensures.value

pub returns-clause-refused : goal.returns-clause-refused
returns-clause-refused c = info_refused c.args.text.now _ c.read_lines.ensures.value

pub returns-clause-first_fault : goal.returns-clause-first_fault
returns-clause-first_fault c = info_first c.args.text.now _ c.read_lines.ensures.value
