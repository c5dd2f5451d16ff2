use Rattle.bag_text.proofs.Lemmas.{◌∙◌, sym, arith, literal_short}
use Rattle.bag_text.proofs.transfer.literal.Goals as goal

pub returns-in-empty : goal.returns-in-empty
returns-in-empty c = sym c.loop-byte.invariant ∙ literal_short c.args.wanted.now c.loop-byte.byte-index c.loop-byte.rest.now (omega arith) (omega arith)
