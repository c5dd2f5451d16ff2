use Rattle.office_tables.proofs.Common.{◌≡◌, ◌∙◌, sym, rules, state, TableVersion, Third, Fourth, Fifth, Newest, version_number, BecomesAt, renewed}
use Rattle.office_tables.proofs.Lemmas.{clean_first}
use Rattle.office_tables.proofs.moving.renew.Goals as goal

-- a version is known by its number
by_number : (P : TableVersion → Type 0) (version known : TableVersion) → version_number version ≡ version_number known → P version → P known
by_number P Third Third same it = it
by_number P Fourth Fourth same it = it
by_number P Fifth Fifth same it = it
by_number P _ _ same it = absurd cc

pub returns-in_ok-note_version-in-3-clause-renewed : goal.returns-in_ok-note_version-in-3-clause-renewed
returns-in_ok-note_version-in-3-clause-renewed g c clean known rows is =
    let number : c.args.version ≡ version_number Third = search rules in
    let moved = clean_first c.in_ok-note_version-in-3.ensures.inside.stays clean in
    let early = clean_first c.in_ok-move_rules-in-3.ensures.inside.stays moved in
    by_number (λ v. BecomesAt v (state g.S.Store c.args.tx.now.conn.now).now rows → BecomesAt Newest (state g.S.Store c.note_version.new.tx.conn.now).now (renewed v rows)) Third known (sym number ∙ is)
    (λ was. c.in_ok-note_version-in-3.ensures.noted clean rows (c.in_ok-move_rules-in-3.ensures.moved moved rows (c.in_ok-move_holds-in-3.ensures.moved early rows was)))

pub returns-in_ok-note_version-in-4-clause-renewed : goal.returns-in_ok-note_version-in-4-clause-renewed
returns-in_ok-note_version-in-4-clause-renewed g c clean known rows is =
    let number : c.args.version ≡ version_number Fourth = search rules in
    by_number (λ v. BecomesAt v (state g.S.Store c.args.tx.now.conn.now).now rows → BecomesAt Newest (state g.S.Store c.note_version-in-4.new.tx.conn.now).now (renewed v rows)) Fourth known (sym number ∙ is)
    (λ was. c.in_ok-note_version-in-4.ensures.noted clean rows (c.in_ok-move_rules-in-4.ensures.moved (clean_first c.in_ok-note_version-in-4.ensures.inside.stays clean) rows was))
