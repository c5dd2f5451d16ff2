use Rattle.desk_answers.proofs.Common.{◌≡◌, ◌++◌, ◌∙◌, length, sym, ap, head_text}
use Rattle.desk_answers.proofs.ListTexts.{turned}
use Rattle.desk_answers.proofs.head.response_around.Goals as goal

pub returns : goal.returns
returns c =
    let len : c.len-len.result ≡ length c.args.body.items = c.len-len.ensures ∙ c.args.body.ok.0 in
    turned c.args.body.items c.as_bytes.result.now c.extend_from_slice.new.self.items _ c.len-len.result c.in_ok-extend_from_slice.ensures.items (sym len) c.rotate_left.ensures.items
    ∙ ap (λ head. head ++ c.args.body.items) (c.as_bytes.ensures.value ∙ c.in_ok-head.ensures ∙ ap (λ n. head_text c.args.status c.args.kind n c.args.allow.now) len)
