use Rattle.desk_log.proofs.lines.failed_line.Goals as goal

pub returns : goal.returns
returns c =
    rw (
      c.push_str-5.ensures.bytes,
      c.push_str-4.ensures.bytes,
      c.format.ensures.text,
      c.push_str-3.ensures.bytes,
      c.push_str-2.ensures.bytes,
      c.failure_name.ensures.name,
      c.push_str.ensures.bytes,
      c.line_front-line.ensures.text,
    )
