use Rattle.office_core.proofs.Lemmas.{◌∙◌, ap, sym, subst, table_view, Answers, named_policy_fault, read_tree, callers_once}
use Rattle.office_core.proofs.PolicyLemmas.{contents_is}
use Rattle.office_core.proofs.TomlKeys.{parsed_sound}
use Rattle.office_core.proofs.policy.read_text.Goals as goal

pub returns-in-Ok : goal.returns-in-Ok
returns-in-Ok c = subst (λ read. Answers named_policy_fault c.read_tree.result read) (contents_is (table_view c.in-Ok.tree) ∙ ap read_tree (sym c.in-Ok.ensures.ok)) c.read_tree.ensures

pub read_tree-requires : goal.read_tree-requires
read_tree-requires c = callers_once (table_view c.in-Ok.tree) (parsed_sound c.args.text.now (table_view c.in-Ok.tree) c.in-Ok.ensures.ok)
