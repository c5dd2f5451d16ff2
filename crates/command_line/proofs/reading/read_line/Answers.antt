use Rattle.command_line.proofs.Common.{texts}
use Rattle.command_line.proofs.OneLineLemmas.{only_line}
use Rattle.command_line.proofs.PlainLineLemmas.{plain_is_read}
use Rattle.command_line.proofs.reading.read_line.Goals as goal

pub returns-clause-only : goal.returns-clause-only
returns-clause-only c = only_line (texts c.args.words.now) c.read_words.result c.read_words.ensures.taken

pub returns-clause-plain : goal.returns-clause-plain
returns-clause-plain c = λ line plain are. plain_is_read (texts c.args.words.now) c.read_words.result line plain are c.read_words.ensures.refused
