use Rattle.desk_answers.proofs.Common.{◌++◌, ◌∙◌, ap}
use Rattle.desk_answers.proofs.ListTexts.{rest_text, whole_text}
use Rattle.desk_answers.proofs.told.list_text.Goals as goal

pub returns : goal.returns
returns g c = whole_text g.T.Told.told c.args.key.now c.loop-item.later c.loop-item.text.items _ c.args.items.now c.loop-item.item-index c.in_ok-extend_from_slice.ensures.items c.loop-item-test.false (c.loop-item.invariant ∙ ap (λ text. text ++ rest_text g.T.Told.told _ c.args.items.now) c.in_ok-text.ensures)
