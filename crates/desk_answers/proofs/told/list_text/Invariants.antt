use Rattle.desk_answers.proofs.Common.{◌≡◌, false, ◌++◌, drop}
use Rattle.desk_answers.proofs.ListTexts.{rest_text}
use Rattle.desk_answers.proofs.told.list_text.Given as goal

-- what is written and what is still to write are the whole
abbrev pub invariant-loop-item : goal.invariant-loop-item
invariant-loop-item g l = l.text.items ++ rest_text g.T.Told.told l.later (drop l.item-index l.items) ≡ l.initial.text.items ++ rest_text g.T.Told.told false l.items
