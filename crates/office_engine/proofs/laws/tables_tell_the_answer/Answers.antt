use Rattle.office_engine.proofs.Common.{sym, ◌∙◌, this_version}
use Rattle.office_engine.proofs.laws.tables_tell_the_answer.Goals as goal

pub returns : goal.returns
returns c = λ db h k legal_h legal_k a b day caller request.
    c.one_picture.ensures.answers h k this_version legal_h legal_k (sym a.are ∙ b.are) day caller request
