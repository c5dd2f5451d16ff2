use Rattle.std.proofs.Common.{◌≡◌, ◌+◌, length}
use Rattle.std.specs.Io.KnownBytes.{Consumes}
use Rattle.streams.proofs.reading.read_at_most.Given as goal

-- what was lost is what is kept, and what is left to read makes up the limit
abbrev pub invariant-reads : goal.invariant-reads
invariant-reads g l = record {
  lost : Consumes (g.R.Read.remaining l.initial.reader) (g.R.Read.remaining l.reader) l.bytes.items;
  count : length l.bytes.items + l.left ≡ l.limit;
}
