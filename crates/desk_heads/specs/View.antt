-- How the code's values are seen: Depot's own, as those values are.
use Rattle.std.specs.Prelude.{Result, Ok, Err}
use Rattle.desk_heads.specs.Fields.{Occurrence, absent, once, repeated}
use Rattle.desk_heads.specs.Heads.{HeadContents}
use Rattle.desk_heads.specs.declared.field.Field.{Field}
use Rattle.desk_heads.specs.declared.field.Field.TheVariants as fields
use Rattle.desk_heads.specs.declared.head.Head.{Head}
use Rattle.desk_heads.specs.declared.refusal.HeadRefusal.{HeadRefusal}

-- what was found of a field
abbrev pub occurrence_seen : Field → Occurrence
occurrence_seen fields.Absent = absent
occurrence_seen (fields.Once value) = once value.now
occurrence_seen fields.Repeated = repeated

-- what a head says
abbrev pub contents_seen : Head → HeadContents
contents_seen head = record {
  method = head.method.now;
  target = head.target.now;
  caller = head.caller;
  body_length = head.body_length;
}

-- what was judged
abbrev pub judgement_seen : Result Head HeadRefusal → Result HeadContents HeadRefusal
judgement_seen (Ok head) = Ok (contents_seen head)
judgement_seen (Err refusal) = Err refusal
