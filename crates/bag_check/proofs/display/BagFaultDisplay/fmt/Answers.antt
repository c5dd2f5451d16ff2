use Rattle.bag_check.proofs.Lemmas.{rules, named_fault, printed_parts}
use Rattle.std.specs.Result.{IsOk}
use Rattle.std.proofs.lemmas.Grind.{put_two}
use Rattle.bag_check.proofs.display.BagFaultDisplay.fmt.Goals as goal

pub returns-clause-writes : goal.returns-clause-writes
returns-clause-writes g c = λ plain ok.
    let is_ok : IsOk c.write.result = search rules in
    let front = c.write.ensures.writes plain is_ok in
    let cause = c.write_cause.ensures front.plain ok in
    put_two _ _ _ _ _ _ _ front cause (rw (c.number_of-number.ensures, c.manifest_of.ensures, c.path_of.ensures) (printed_parts (named_fault c.args.self.now)))
