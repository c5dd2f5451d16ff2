use Rattle.office_history.proofs.Lemmas.{ap, ◌∙◌, report_or_text, audit_report, deposits, all_numbered, HasSoundBag, sound_deposits, audited}
use Rattle.office_history.proofs.laws.audits_are_valid.Goals as goal

pub returns : goal.returns
returns c = λ h legal day caller n m report e.
    let told = audited h day caller n m report e in
    let found = told.1.0 in
    let sound = all_numbered HasSoundBag (deposits h) n found
    (sound_deposits (λ t files is. ((c.transfer_forms.ensures.read t files).0 is).0) (λ files report is j. let v = c.judged_bags.ensures.report files report is j in (v.0, v.1)) h legal)
    told.1.1 in
    (told.0, (found, told.1.1, sound, told.1.2 ∙ ap (λ judged. audit_report (report_or_text judged)) (c.judged_bags.ensures.valid found.1.bag sound.version sound.bag sound.valid)))
