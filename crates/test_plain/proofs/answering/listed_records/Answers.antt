use Rattle.test_plain.proofs.Lemmas.{◌∙◌, sym, listed_record, item_told, item_silent}
use Rattle.test_plain.proofs.answering.listed_records.Goals.{in-Some+in_ok-push, in_default}
use Rattle.test_plain.proofs.answering.listed_records.Goals as goal

pub loop-number-preserved : goal.loop-number-preserved
loop-number-preserved c =
    let a = c.args in
    elim c.match-branch-3.branch [
      | in-Some+in_ok-push w ↦ rw (w.records-is, w.in_ok-push.ensures.items) (item_told _ _ _ c.loop-number-test.true (listed_record a.office.now a.day a.caller.now (record { collection = a.collection.now; class = a.class.now })) _ _ _ (sym c.in_ok-record.ensures ∙ w.in-Some.is) c.loop-number.invariant)
      | in_default w ↦ rw w.records-is (item_silent _ _ _ c.loop-number-test.true (listed_record a.office.now a.day a.caller.now (record { collection = a.collection.now; class = a.class.now })) _ _ (sym c.in_ok-record.ensures ∙ w.in_default.is) c.loop-number.invariant)
    ]
