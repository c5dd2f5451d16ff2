use Rattle.office_engine.proofs.Common.{sym, ap, ◌∙◌, same_Some, Answer, Rows}
use Rattle.office_engine.proofs.laws.the_rows_tell_one_answer.Goals as goal

pub returns : goal.returns
returns c = record {
  answer = λ r visit request a b p q. ap (λ (told : Answer × Rows). told.0) (same_Some _ _ (sym p.1 ∙ q.1));
  due = λ t visit a b p q. same_Some _ _ (sym p ∙ q);
  stock = λ db a b p q. same_Some _ _ (sym p ∙ q);
}
