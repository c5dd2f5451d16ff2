use Rattle.desk_heads.proofs.Common.{sym, ap, ◌∙◌, arith, head_at, TooLarge, Found}
use Rattle.desk_heads.proofs.EndLemmas.{short_room, whole_head, smaller_by, found_within}
use Rattle.desk_heads.proofs.reading.read_to_end_of_head.Goals as goal

pub returns-in-Found-clause-whole : goal.returns-in-Found-clause-whole
returns-in-Found-clause-whole g c = whole_head _ _ c.reads.bytes.items (Found c.in-Found.n) c.reads.invariant.given (ap head_at (sym c.deref.ensures.value) ∙ sym c.in-Found.ensures) (λ e. cc)

pub returns-in-TooLarge-clause-whole : goal.returns-in-TooLarge-clause-whole
returns-in-TooLarge-clause-whole g c = whole_head _ _ c.reads.bytes.items TooLarge c.reads.invariant.given (ap head_at (sym c.deref.ensures.value) ∙ sym c.in-TooLarge.ensures) (λ e. cc)

pub reads-smaller : goal.reads-smaller
reads-smaller g c =
    let room = short_room c.reads.bytes.items (ap head_at (sym c.deref.ensures.value) ∙ sym c.in-Short.ensures) in
    smaller_by c.reads.bytes.items c.read.new.buf c.extend_from_slice.new.self.items c.in-Ok.n room (omega arith) c.in-Ok.ensures.bound.0 c.in-Ok-extend_from_slice.ensures.items

pub returns-in-Found-clause-within : goal.returns-in-Found-clause-within
returns-in-Found-clause-within g c = found_within c.reads.bytes.items c.in-Found.n (ap head_at (sym c.deref.ensures.value) ∙ sym c.in-Found.ensures)
