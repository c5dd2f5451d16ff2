use Rattle.bag_text.proofs.Lemmas.{◌∙◌, sym, ap, List, ℕ, continued, marked_last, joined_feed}
use Rattle.bag_text.proofs.info.continue_last.Goals as goal

pub returns-clause-value : goal.returns-clause-value
returns-clause-value c =
    continued c.args.number c.args.pairs.now.items c.pop.new.self.items c.push.new.self.items c.pop.result (c.in-Some.label, c.in-Some.value) (c.in-Some.label, c.in_ok-value.value) c.args.line.now c.pop.ensures.items c.in-Some.is c.in-Ok.ensures.items (ap (λ (v : List ℕ). record { label = c.in-Some.label.now; value = v }) c.in_ok-value.ensures.value)

pub returns-clause-marked : goal.returns-clause-marked
returns-clause-marked c =
    marked_last c.args.pairs.now.items c.pop.new.self.items c.push.new.self.items c.pop.result (c.in-Some.label, c.in-Some.value) (c.in-Some.label, c.in_ok-value.value) c.pop.ensures.items c.in-Some.is c.in-Ok.ensures.items (c.in_ok-value.ensures.owned ∙ sym (joined_feed _ _ _ c.in_ok-value.ensures.value))
