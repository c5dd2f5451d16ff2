use Rattle.desk_heads.proofs.Common.{arith, common_steps}
use Rattle.desk_heads.proofs.EndLemmas.{place_found, place_none}
use Rattle.desk_heads.proofs.head_end.find_head_end.Goals as goal

pub returns-in-Some : goal.returns-in-Some
returns-in-Some c = place_found c.args.bytes.now c.min.result c.in-Some.n c.min.ensures c.in-Some.ensures

pub returns-in-None : goal.returns-in-None
returns-in-None c = let e = place_none c.args.bytes.now c.min.result c.min.ensures c.in-None.ensures in grind (arith, common_steps, e)

pub returns-in-None-2 : goal.returns-in-None-2
returns-in-None-2 c = let e = place_none c.args.bytes.now c.min.result c.min.ensures c.in-None-2.ensures in grind (arith, common_steps, e)
