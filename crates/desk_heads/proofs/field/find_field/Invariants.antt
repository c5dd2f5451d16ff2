use Rattle.desk_heads.proofs.Common.{◌≡◌, map, take, occurrence_of, values_among}
use Rattle.httparse.specs.Spans.{header_bytes}
use Rattle.desk_heads.specs.View.{occurrence_seen}
use Rattle.desk_heads.proofs.field.find_field.Given as goal

abbrev pub invariant-loop-header : goal.invariant-loop-header
invariant-loop-header l = occurrence_seen l.field ≡ occurrence_of (values_among l.name (map (header_bytes l.front) (take l.header-index l.headers)))
