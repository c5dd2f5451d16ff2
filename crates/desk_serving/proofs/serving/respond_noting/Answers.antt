use Rattle.desk_serving.proofs.Common.{rules, ◌≡◌, ap, Err, Some, refl, subst, answer_text, refusal_text}
use Rattle.desk_hearing.specs.Reading.{HeardOf}
use Rattle.desk_hearing.specs.declared.fault.HeardFault.TheVariants.{Refused}
use Rattle.desk_serving.proofs.RefusalLemmas.{cut_short, heard_whole}
use Rattle.desk_serving.proofs.ServingLemmas.{whole_answer, whole_served}
use Rattle.desk_serving.proofs.serving.respond_noting.Goals as goal

pub returns-in-Ok-bytes-clause-answered : goal.returns-in-Ok-bytes-clause-answered
returns-in-Ok-bytes-clause-answered g c =
    let h = c.in-Ok.ensures.given (λ e. cc) in
    let s = c.answer_heard-bytes.ensures in
    let text : c.in-Ok-bytes.bytes.items ≡ answer_text s.0 = rw c.in-Ok-bytes.is at s.2 in
    (h.0, h.1, (s.0, ((c.in-Ok.heard, h.2, s.1), ap Some s.3), text), λ short. absurd (heard_whole h.0 c.in-Ok.heard h.2 short))

pub returns-in-Err-clause-served : goal.returns-in-Err-clause-served
returns-in-Err-clause-served g c e =
    let h = c.in-Ok.ensures.given (λ e. cc) in
    let s = c.answer_heard-bytes.ensures in
    (h.0, s.0, h.1, ((c.in-Ok.heard, h.2, s.1), ap Some s.3))

pub returns-in-Ok-refusal_bytes-clause-answered : goal.returns-in-Ok-refusal_bytes-clause-answered
returns-in-Ok-refusal_bytes-clause-answered g c =
    let h = c.in-Err-Refused.ensures.given (λ e. cc) in
    let refused : HeardOf h.0 (Err (Refused c.in-Err-Refused.refusal)) = subst (λ f. HeardOf h.0 (Err f)) c.in-Err-Refused.field-0-is h.2 in
    let said : c.in-Ok-refusal_bytes.bytes.items ≡ refusal_text c.in-Err-Refused.refusal = search rules in
    (h.0, h.1, (c.in-Err-Refused.refusal, refused, refl, said, refl), λ short. (let same = cut_short h.0 c.in-Err-Refused.refusal refused short in c.in-Err-Refused.ensures.end (cc)))

pub returns-in-Ok-bytes-clause-whole : goal.returns-in-Ok-bytes-clause-whole
returns-in-Ok-bytes-clause-whole g c =
    let s = c.answer_heard-bytes.ensures in
    let text : c.in-Ok-bytes.bytes.items ≡ answer_text s.0 = rw c.in-Ok-bytes.is at s.2 in
    whole_answer g.S.Store c.args.office.now c.answer_heard-bytes.new.office _ _ _ c.in-Ok.heard s.0 _ c.in-Ok.ensures.whole s.1 (ap Some s.3) text

pub returns-in-Err-clause-whole_served : goal.returns-in-Err-clause-whole_served
returns-in-Err-clause-whole_served g c e =
    let s = c.answer_heard-bytes.ensures in
    whole_served g.S.Store c.args.office.now c.answer_heard-bytes.new.office _ _ _ c.in-Ok.heard s.0 c.in-Ok.ensures.whole s.1 (ap Some s.3)
