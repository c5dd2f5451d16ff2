use Rattle.bag_text.proofs.Lemmas.{◌∙◌, sym, arith, blank_at_end, no_blank_at_end}
use Rattle.bag_text.proofs.text.without_last_blanks.Goals as goal

pub loop-rest-preserved : goal.loop-rest-preserved
loop-rest-preserved c = sym (blank_at_end c.loop-rest.rest.now (omega arith) (cc)) ∙ c.loop-rest.invariant

pub returns-then-not-is_blank_byte : goal.returns-then-not-is_blank_byte
returns-then-not-is_blank_byte c = sym (no_blank_at_end c.loop-rest.rest.now (omega arith) (cc)) ∙ c.loop-rest.invariant
