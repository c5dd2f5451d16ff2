use Rattle.fault_words.proofs.Common.{◌∙◌, sym}
use Rattle.fault_words.proofs.FormLemmas.{compared}
use Rattle.fault_words.proofs.path_note.differs_by_form.Goals as goal

pub returns : goal.returns
returns c =
    compared c.args.path.now c.args.other.now c.as_str.result.now c.as_str-2.result.now c.eq-2.result (sym c.eq.ensures ∙ c.if-eq.false)
    (c.as_str.ensures.value ∙ c.in_ok-one.ensures) (c.as_str-2.ensures.value ∙ c.in_ok-two.ensures) c.eq-2.ensures
