use Rattle.office_history.proofs.RowLemmas.{rows_in_range}
use Rattle.office_history.proofs.laws.pictures_are_in_range.Goals as goal

pub returns : goal.returns
returns c = λ h version legal.
    rows_in_range (λ t files is. ((c.transfer_forms.ensures.read t files).0 is).0) (λ files report is j. let v = c.judged_bags.ensures.report files report is j in (v.0, v.1)) h version legal
