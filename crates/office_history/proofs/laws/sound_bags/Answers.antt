use Rattle.office_history.proofs.Lemmas.{deposits, all_numbered, HasSoundBag, sound_deposits}
use Rattle.office_history.proofs.laws.sound_bags.Goals as goal

pub returns : goal.returns
returns c = λ h legal n found e.
    all_numbered HasSoundBag (deposits h) n found
    (sound_deposits (λ t files is. ((c.transfer_forms.ensures.read t files).0 is).0) (λ files report is j. let v = c.judged_bags.ensures.report files report is j in (v.0, v.1)) h legal)
    e
