use Rattle.bag_text.proofs.Lemmas.{◌∙◌, sym, refl, content_is}
use Rattle.bag_text.proofs.order.find_content.Goals as goal

pub returns-in-None : goal.returns-in-None
returns-in-None c = sym (content_is c.args.files.now c.args.path.now c.count_before.result c.get.result c.requires c.count_before.ensures c.get.ensures.lookup.3 ∙ rw c.in-None.is refl)

pub returns-then-eq : goal.returns-then-eq
returns-then-eq c =
    let same = sym c.eq.ensures ∙ c.if-eq.true in
    sym (content_is c.args.files.now c.args.path.now c.count_before.result c.get.result c.requires c.count_before.ensures c.get.ensures.lookup.3 ∙ rw (c.in-Some.is, same) refl)

pub returns-else-eq : goal.returns-else-eq
returns-else-eq c =
    let other = sym c.eq.ensures ∙ c.if-eq.false in
    sym (content_is c.args.files.now c.args.path.now c.count_before.result c.get.result c.requires c.count_before.ensures c.get.ensures.lookup.3 ∙ rw (c.in-Some.is, other) refl)
