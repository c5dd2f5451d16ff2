use Rattle.http_desk.proofs.Lemmas.{◌≡◌, ◌<◌, ◌∙◌, ℕ, List, ap, length, subst, take, Appends, Appends-nil, device_of, state, ServesBytes, answer_record, heard_as, unserved}
use Rattle.http_desk.proofs.answering.answer_next.Goals as goal

pub returns-in-Err-Memory-clause-answered : goal.returns-in-Err-Memory-clause-answered
returns-in-Err-Memory-clause-answered g c =
    let same : (device_of c.new-request.result).now ≡ c.args.bytes.now = ap (λ b. b.now) c.new-request.ensures.device in
    unserved g.S.Store (Unit {0}) c.args.office.now c.respond.new.office (record { day = c.args.day; bytes = c.args.bytes.now }) _ _ c.in-Err-Memory.done c.in-Err-Memory.done-is
    (λ e. let s = (c.in-Err-Memory.ensures {u = tt}).whole_served (cc) in
    (s.0, subst (λ l. ServesBytes c.args.day l (state g.S.Store c.args.office.now) (state g.S.Store c.respond.new.office) s.0) same s.1))
    (λ e. (c.in-Err-Memory.ensures {u = tt}).not_served (cc))

pub returns-in-Ok-write_whole-clause-answered : goal.returns-in-Ok-write_whole-clause-answered
returns-in-Ok-write_whole-clause-answered g c =
    let response = c.in-Ok.response in
    let same : (device_of c.new-request.result).now ≡ c.args.bytes.now = ap (λ b. b.now) c.new-request.ensures.device in
    let text : c.deref-in-Ok-answer_record.result.now ≡ answer_record response.bytes.items =
    c.deref-in-Ok-answer_record.ensures.value ∙ c.in-Ok-answer_record.ensures ∙ ap answer_record c.deref.ensures.value in (
      response.bytes.items,
      heard_as g.S.Store c.args.office.now c.respond.new.office c.args.day _ c.args.bytes.now response.bytes.items response.done same c.in-Ok.ensures.whole,
      subst (Appends (g.W.Write.contents (device_of c.args.writer.now)) (g.W.Write.contents (device_of c.write_whole.new.writer))) text c.in-Ok-write_whole.ensures.ok,
    )

pub returns-in-Ok-answer_record-clause-answered : goal.returns-in-Ok-answer_record-clause-answered
returns-in-Ok-answer_record-clause-answered g c =
    let response = c.in-Ok.response in
    let same : (device_of c.new-request.result).now ≡ c.args.bytes.now = ap (λ b. b.now) c.new-request.ensures.device in
    let text : c.deref-in-Ok-answer_record.result.now ≡ answer_record response.bytes.items =
    c.deref-in-Ok-answer_record.ensures.value ∙ c.in-Ok-answer_record.ensures ∙ ap answer_record c.deref.ensures.value in
    let part = subst (λ (l : List ℕ). (n : ℕ) × (n < length l) × Appends (g.W.Write.contents (device_of c.args.writer.now)) (g.W.Write.contents (device_of c.write_whole.new.writer)) (take n l)) text c.in-Err-write_whole.ensures.beginning in (
      response.bytes.items,
      part.0,
      heard_as g.S.Store c.args.office.now c.respond.new.office c.args.day _ c.args.bytes.now response.bytes.items response.done same c.in-Ok.ensures.whole,
      part.1,
      part.2,
    )

pub returns-in-Ok-clause-answered : goal.returns-in-Ok-clause-answered
returns-in-Ok-clause-answered g c =
    let response = c.in-Ok.response in
    let same : (device_of c.new-request.result).now ≡ c.args.bytes.now = ap (λ b. b.now) c.new-request.ensures.device in
    (response.bytes.items, heard_as g.S.Store c.args.office.now c.respond.new.office c.args.day _ c.args.bytes.now response.bytes.items response.done same c.in-Ok.ensures.whole, Appends-nil _)
