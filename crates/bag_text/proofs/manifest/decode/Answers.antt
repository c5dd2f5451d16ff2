use Rattle.bag_text.proofs.Lemmas.{ap, option_map, decode, step, done}
use Rattle.bag_text.proofs.manifest.decode.Goals as goal

pub loop-byte-preserved : goal.loop-byte-preserved
loop-byte-preserved c = step c.loop-byte.path.items c.push.new.self.items c.args.version c.loop-byte.rest.now _ c.in-Some.byte c.in-Some.after.now (decode c.args.version c.args.spelled.now) c.read_char.ensures.value (ap (option_map (λ x. (x.0, x.1.now))) c.in-Some.is) c.in_ok-push.ensures.items c.loop-byte.invariant

pub returns : goal.returns
returns c = done c.loop-byte.path.items c.args.version c.loop-byte.rest.now _ (decode c.args.version c.args.spelled.now) c.read_char.ensures.value (ap (option_map (λ x. (x.0, x.1.now))) c.in_default.is) c.loop-byte.invariant
