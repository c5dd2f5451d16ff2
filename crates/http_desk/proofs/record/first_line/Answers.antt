use Rattle.http_desk.proofs.Lemmas.{no_feed_in_front, cut_at}
use Rattle.http_desk.proofs.record.first_line.Goals as goal

pub returns-in-Some-clause-cut : goal.returns-in-Some-clause-cut
returns-in-Some-clause-cut c = cut_at c.args.bytes.now c.min.result c.in-Some.at c.in-Some.ensures.offset

pub returns-in-None-clause-none : goal.returns-in-None-clause-none
returns-in-None-clause-none c = no_feed_in_front c.args.bytes.now c.min.result c.min.ensures c.in-None.ensures.offset
