use Rattle.desk_answers.proofs.Common.{◌≡◌, take, fold, no_members, members_view, with_member}
use Rattle.desk_answers.proofs.object.object.Given as goal

abbrev pub invariant-loop-key : goal.invariant-loop-key
invariant-loop-key l = members_view l.map.entries ≡ fold with_member no_members (take l.key-index l.members)
