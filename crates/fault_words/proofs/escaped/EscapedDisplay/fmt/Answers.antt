use Rattle.fault_words.proofs.Common.{◌∙◌, rules}
use Rattle.bag_check.proofs.CodeLemmas.{encodes}
use Rattle.fault_words.proofs.escaped.EscapedDisplay.fmt.Goals as goal

pub returns-clause-writes : goal.returns-clause-writes
returns-clause-writes g c =
    let text = c.utf8_percent_encode-text.ensures.text ∙ encodes c.escaped_bytes.result c.escaped_bytes.ensures c.args.self.now.0.now in
    rw (← text) (search rules)
