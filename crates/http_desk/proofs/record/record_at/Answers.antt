use Rattle.http_desk.proofs.Lemmas.{More, Bad, found_in, only_found, no_line, long_line}
use Rattle.http_desk.proofs.record.record_at.Goals as goal

-- what is found of all the bytes; `only` follows from it
pub returns-in-Some-clause-found : goal.returns-in-Some-clause-found
returns-in-Some-clause-found c = found_in c.after_line.result c.args.bytes.now c.in-Some.line.now c.in-Some.body.now c.in-Some.ensures.cut c.after_line.ensures

pub returns-in-Some-clause-only : goal.returns-in-Some-clause-only
returns-in-Some-clause-only c = only_found c.after_line.result c.args.bytes.now (returns-in-Some-clause-found c)

pub returns-in-None-clause-found : goal.returns-in-None-clause-found
returns-in-None-clause-found c = no_line c.args.bytes.now c.if-bytes-lt-MAX_LINE.true c.in-None.ensures.none

pub returns-in-None-clause-only : goal.returns-in-None-clause-only
returns-in-None-clause-only c = only_found More c.args.bytes.now (returns-in-None-clause-found c)

pub returns-in-None-2-clause-found : goal.returns-in-None-2-clause-found
returns-in-None-2-clause-found c = long_line c.args.bytes.now c.if-bytes-lt-MAX_LINE.false c.in-None-2.ensures.none

pub returns-in-None-2-clause-only : goal.returns-in-None-2-clause-only
returns-in-None-2-clause-only c = only_found Bad c.args.bytes.now (returns-in-None-2-clause-found c)
