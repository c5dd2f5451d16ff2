use Rattle.fault_words.proofs.Lemmas.{arith, empty_is_toml}
use Rattle.fault_words.proofs.toml_line.breaking_line.Goals as goal

pub loop-good-init : goal.loop-good-init
loop-good-init c = (c.in_ok-broken.ensures.some, omega arith, empty_is_toml c.args.bytes.now, c.in_ok-broken.ensures.broken)
