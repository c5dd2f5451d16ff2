use Rattle.bag_text.proofs.Lemmas.{◌∙◌, utf8_answer}
use Rattle.bag_text.proofs.text.is_text.Goals as goal

pub returns : goal.returns
returns c = c.is_ok.ensures.value ∙ utf8_answer c.from_utf8.result c.args.bytes.now c.from_utf8.ensures.cases
