use Rattle.office_core.proofs.Lemmas.{sym, ◌∙◌, bytes_eq, bytes_eq-Decides, IfSome_from, find_some}
use Rattle.office_core.specs.Actions.{action_text, actions}
use Rattle.office_core.proofs.action.Action.read.Goals as goal

pub returns-clause-written : goal.returns-clause-written
returns-clause-written c =
    IfSome_from c.action_of.result (λ action is. sym ((bytes_eq-Decides (action_text action) c.args.text.now).0 (find_some (λ a. bytes_eq (action_text a) c.args.text.now) actions action (sym c.action_of.ensures ∙ is))))
