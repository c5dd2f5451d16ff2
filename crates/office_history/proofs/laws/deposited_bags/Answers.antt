use Rattle.office_history.proofs.Lemmas.{◌∙◌, ap, valid_bag, if_valid, report_or_text, sound_bag, read_of}
use Rattle.office_history.proofs.laws.deposited_bags.Goals as goal

pub returns-clause-valid : goal.returns-clause-valid
returns-clause-valid c = λ text bag. (
  (λ e. (
    sound_bag (λ t files is. ((c.transfer_forms.ensures.read t files).0 is).0) (λ files report is j. let v = c.judged_bags.ensures.report files report is j in (v.0, v.1)) text bag e,
    ((c.transfer_forms.ensures.read text bag).0 (read_of text bag e)).1,
  )),
  (λ s. ap valid_bag ((c.transfer_forms.ensures.read text bag).1 (s.0.bag, s.1)) ∙ ap (λ r. if_valid bag (report_or_text r)) (c.judged_bags.ensures.valid bag s.0.version s.0.bag s.0.valid)),
)
