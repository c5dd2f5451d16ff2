use Rattle.bag_check.proofs.Lemmas.{◌∙◌, rules, encodes}
use Rattle.bag_check.proofs.display.AfterSpaceDisplay.fmt.Goals as goal

pub returns-in-Some-clause-writes : goal.returns-in-Some-clause-writes
returns-in-Some-clause-writes g c =
    let text = c.utf8_percent_encode-text.ensures.text ∙ encodes c.escaped_bytes.result c.escaped_bytes.ensures c.in-Some.name.now in
    rw (c.in-Some.is, ← text) (search rules)
