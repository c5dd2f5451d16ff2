use Rattle.bag_text.proofs.Lemmas.{◌≡◌, ◌∙◌, sym, false, list_all, is_blank, added, twice}
use Rattle.bag_text.proofs.manifest.add_line.Goals as goal

pub returns-then-is_some : goal.returns-then-is_some
returns-then-is_some c =
    let full : list_all is_blank c.args.line.now ≡ false = sym c.is_blank_line.ensures ∙ c.if-is_blank_line.false in
    twice c.args.version c.args.algorithm c.args.number c.args.entries.now.entries c.args.line.now c.in_ok-path.path c.in_ok-path.listing c.in_ok-insert.field-0 full c.in_ok-path.ensures c.in_ok-insert.ensures.old (sym c.is_some.ensures ∙ c.if-is_some.true)

pub returns : goal.returns
returns c =
    let full : list_all is_blank c.args.line.now ≡ false = sym c.is_blank_line.ensures ∙ c.if-is_blank_line.false in
    added c.args.version c.args.algorithm c.args.number c.args.entries.now.entries c.args.line.now c.in_ok-path.path c.in_ok-path.listing c.in_ok-insert.field-0 c.insert.new.self.entries full c.in_ok-path.ensures c.in_ok-insert.ensures.old (sym c.is_some.ensures ∙ c.if-is_some.false) c.in_ok-insert.ensures.entries
