use Rattle.streams.proofs.WritingLemmas.{HasTaken}
use Rattle.streams.proofs.writing.write_bytes.Given as goal

abbrev pub invariant-writes : goal.invariant-writes
invariant-writes g l = HasTaken l.fn.bytes l.rest (g.W.Write.contents l.initial.writer) (g.W.Write.contents l.writer)
