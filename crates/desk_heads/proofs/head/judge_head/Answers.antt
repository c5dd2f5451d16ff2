use Rattle.desk_heads.proofs.Common.{IsUtf8, codes, sym, ◌∙◌, subst}
use Rattle.std.proofs.lemmas.Result.{err_from_is_err_and}
use Rattle.desk_heads.proofs.HeadLemmas.{token_is_text}
use Rattle.desk_heads.proofs.StepLemmas.{found, refused_encoding, refused_length, refused_caller, taken}
use Rattle.desk_heads.proofs.head.judge_head.Goals as goal

pub returns-in_err-refuse_chunks-clause-judged : goal.returns-in_err-refuse_chunks-clause-judged
returns-in_err-refuse_chunks-clause-judged c =
    let head = c.in-Some.ensures.head in
    let p = err_from_is_err_and c.from_residual.result c.from_residual.ensures.1 in
    rw (p.1, p.2) (refused_encoding c.args.front.now head.0 _ _ head.1
    (found (codes "transfer-encoding") _ head.0 _ c.find_field.ensures head.2.fields) c.in_err-refuse_chunks.ensures)

pub returns-in_err-body_length-clause-judged : goal.returns-in_err-body_length-clause-judged
returns-in_err-body_length-clause-judged c =
    let head = c.in-Some.ensures.head in
    let p = err_from_is_err_and c.from_residual-in_err-body_length.result c.from_residual-in_err-body_length.ensures.1 in
    rw (p.1, p.2) (refused_length c.args.front.now head.0 _ _ _ head.1
    (found (codes "transfer-encoding") _ head.0 _ c.find_field.ensures head.2.fields) c.in_ok-refuse_chunks.ensures
    (found (codes "content-length") _ head.0 _ c.find_field-2.ensures head.2.fields) c.in_err-body_length.ensures.judged)

pub returns-in_err-caller-clause-judged : goal.returns-in_err-caller-clause-judged
returns-in_err-caller-clause-judged c =
    let head = c.in-Some.ensures.head in
    let p = err_from_is_err_and c.from_residual-in_err-caller.result c.from_residual-in_err-caller.ensures.1 in
    rw (p.1, p.2) (refused_caller c.args.front.now head.0 _ _ _ _ head.1
    (found (codes "transfer-encoding") _ head.0 _ c.find_field.ensures head.2.fields) c.in_ok-refuse_chunks.ensures
    (found (codes "content-length") _ head.0 _ c.find_field-2.ensures head.2.fields) c.in_ok-body_length.ensures.judged.0
    (found (codes "depot-caller") _ head.0 _ c.find_field-3.ensures head.2.fields) c.in_err-caller.ensures)

pub text_of-requires : goal.text_of-requires
text_of-requires c =
    let head = c.in-Some.ensures.head in
    subst IsUtf8 (sym (c.of.ensures ∙ head.2.method)) (token_is_text head.0.method head.1.reads.0.method)

pub returns-clause-judged : goal.returns-clause-judged
returns-clause-judged c =
    let head = c.in-Some.ensures.head in
    taken c.args.front.now head.0 _ _ _ _ head.1
    (found (codes "transfer-encoding") _ head.0 _ c.find_field.ensures head.2.fields) c.in_ok-refuse_chunks.ensures
    (found (codes "content-length") _ head.0 _ c.find_field-2.ensures head.2.fields) c.in_ok-body_length.ensures.judged.0
    (found (codes "depot-caller") _ head.0 _ c.find_field-3.ensures head.2.fields) c.in_ok-caller.ensures.0
    (c.text_of.ensures ∙ c.of.ensures ∙ head.2.method) (c.text_of-2.ensures ∙ c.of-2.ensures ∙ head.2.path)
    c.in_ok-caller.ensures.1 c.in_ok-body_length.ensures.judged.1
