use Rattle.bag_text.proofs.Common.{◌∙◌}
use Rattle.bag_text.proofs.DeclarationLemmas.{answer_declared, declared_again, answer_refused, refused_again}
use Rattle.bag_text.proofs.declaration.read_declaration.Goals as goal

pub returns-clause-declared : goal.returns-clause-declared
returns-clause-declared c = answer_declared c.declared_version.result c.args.text.now c.declared_version.ensures

pub returns-clause-answered : goal.returns-clause-answered
returns-clause-answered c = λ version is. c.declared_version.ensures ∙ declared_again c.args.text.now version is

pub returns-clause-refused : goal.returns-clause-refused
returns-clause-refused c = answer_refused c.declared_version.result c.args.text.now c.declared_version.ensures

pub returns-clause-named : goal.returns-clause-named
returns-clause-named c = λ fault is. c.declared_version.ensures ∙ refused_again c.args.text.now fault is
