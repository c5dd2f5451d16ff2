use Rattle.test_plain.proofs.RunLemmas.{install_legal}
use Rattle.test_plain.proofs.history.Office.install.Goals as goal

pub returns-clause-legal : goal.returns-clause-legal
returns-clause-legal c =
    install_legal c.args.self.now c.accept.new.office c.args.policy c.accept.result c.rules-rules.ensures.policy c.accept.ensures.accepted c.accept.ensures.failed
