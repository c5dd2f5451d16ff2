use Rattle.office_tables.proofs.Lemmas.{◌≡◌, sym, ap, not, ◌∙◌, ◌==◌, length, rules, vec_len, finds_collection}
use Rattle.office_tables.proofs.classes.has_collection.Goals as goal

pub returns-clause-same : goal.returns-clause-same
returns-clause-same g c clean office =
    (finds_collection _ _ c.args.name.now c.in_ok-rows.rows.items office (rw c.params-to_sql.ensures at (c.in_ok-rows.ensures.shown clean))).0

pub returns-clause-found : goal.returns-clause-found
returns-clause-found g c clean office =
    let size : vec_len c.in_ok-rows.rows ≡ length c.in_ok-rows.rows.items = search rules in
    ap not (c.is_empty.ensures ∙ ap (λ n. n == 0) size)
    ∙ sym (finds_collection _ _ c.args.name.now c.in_ok-rows.rows.items office (rw c.params-to_sql.ensures at (c.in_ok-rows.ensures.shown clean))).1
