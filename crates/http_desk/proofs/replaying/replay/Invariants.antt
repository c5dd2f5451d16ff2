use Rattle.http_desk.proofs.Lemmas.{◌≡◌, ◌≤◌, ◌-◌, ◌*◌, ◌+◌, length, failures_of, max_records, moment_of, Progress}
use Rattle.http_desk.proofs.replaying.replay.Given as goal

abbrev pub invariant-records : goal.invariant-records
invariant-records g l = record {
  progress : Progress g.S.Store (moment_of g.R.Read g.W.Write l.fn.office l.fn.reader l.fn.writer) (moment_of g.R.Read g.W.Write l.office l.reader l.writer) l.pending.items l.count;
  short : length l.pending.items ≤ 16804120;
  reader_calm : failures_of l.reader ≡ failures_of l.fn.reader;
  writer_calm : failures_of l.writer ≡ failures_of l.fn.writer;
}

abbrev pub decreases-records : goal.decreases-records
decreases-records g l = (max_records - l.count) * 16804200 + (16804200 - length l.pending.items)
