use Rattle.bag_folders.proofs.Lemmas.{true, refl, sym, ◌∙◌, needs_from, needs_none}
use Rattle.bag_folders.proofs.making.needs_data.Goals as goal

pub returns-then-has_declaration : goal.returns-then-has_declaration
returns-then-has_declaration c =
    needs_from c.args.files.now true c.has_payload.result _ (sym c.if-has_declaration.true ∙ c.has_declaration.ensures) c.has_payload.ensures refl

pub returns-else-has_declaration : goal.returns-else-has_declaration
returns-else-has_declaration c = needs_none c.args.files.now c.has_declaration.result c.has_declaration.ensures c.if-has_declaration.false
