use Rattle.test_plain.proofs.Common.{◌∙◌, sym}
use Rattle.test_plain.proofs.RoomLemmas.{room_for}
use Rattle.test_plain.proofs.stepping.answer_and_change.Goals as goal

pub make_change-requires : goal.make_change-requires
make_change-requires c change is = room_for c.args.office.now c.args.day c.args.caller.now c.args.request.now change (sym c.in_ok-refusal.ensures ∙ c.in_default.is) is
