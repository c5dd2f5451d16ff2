use Rattle.bag_text.proofs.Lemmas.{◌∙◌, ◌<◌, sym, ap, length, arith, Less, Equal, Greater, not_longer, longer, first_before_slash, not}
use Rattle.bag_text.proofs.order.is_before_folder.Goals as goal

pub returns-then-path-folder : goal.returns-then-path-folder
returns-then-path-folder c = ap not c.is_before.ensures ∙ sym (not_longer c.args.path.now c.args.folder.now c.if-path-folder.true)

pub returns-in-Less : goal.returns-in-Less
returns-in-Less c = sym (longer c.args.path.now c.args.folder.now c.split_at.result.0.now c.split_at.result.1.now Less c.split_at.ensures.front c.split_at.ensures.back c.split_at.ensures.front_len (sym c.cmp.ensures ∙ c.in-Less.is))

pub returns-in-Equal : goal.returns-in-Equal
returns-in-Equal c =
    let some : 0 < length c.split_at.result.1.now = omega (arith, c.if-path-folder.false, c.split_at.ensures.back_len) in
    sym (longer c.args.path.now c.args.folder.now c.split_at.result.0.now c.split_at.result.1.now Equal c.split_at.ensures.front c.split_at.ensures.back c.split_at.ensures.front_len (sym c.cmp.ensures ∙ c.in-Equal.is)
    ∙ first_before_slash c.split_at.result.1.now some)

pub returns-in-Greater : goal.returns-in-Greater
returns-in-Greater c = sym (longer c.args.path.now c.args.folder.now c.split_at.result.0.now c.split_at.result.1.now Greater c.split_at.ensures.front c.split_at.ensures.back c.split_at.ensures.front_len (sym c.cmp.ensures ∙ c.in-Greater.is))
