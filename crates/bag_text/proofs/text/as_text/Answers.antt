use Rattle.bag_text.proofs.Lemmas.{text_answer}
use Rattle.bag_text.proofs.text.as_text.Goals as goal

pub returns : goal.returns
returns c = text_answer c.from_utf8.result c.args.bytes.now c.from_utf8.ensures.cases c.ok.result c.ok.ensures.value
