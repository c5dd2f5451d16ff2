use Rattle.office_queries.proofs.Lemmas.{rules, ◌≡◌, refl, ap, ◌∙◌, map, pos, true, Some, sym, subst, list_all, state, IsBag, set_text, file_in, files_by_path, stored_files, is_intact_at, rows_of, bag_is}
use Rattle.office_core.specs.declared.answer.Answer.TheVariants as answers
use Rattle.office_queries.proofs.bags.stored_bag.Goals as goal

pub returns-clause-reads : goal.returns-clause-reads
returns-clause-reads g c clean office =
    let a = c.args in
    let r = rows_of (state g.S.Store a.tx.now.conn.now).now in
    let rows = c.in_ok-rows.rows.items in
    let found : rows ≡ files_by_path (pos a.number) r.tables = c.in_ok-rows.ensures.found clean office in
    let checked : list_all (λ f. is_intact_at a.number f.path r) rows ≡ true = c.in_ok-rows.ensures.intact clean office in
    let stored : map file_in c.deref.result.now ≡ stored_files a.number r.tables = ap (map file_in) (c.deref.ensures.value ∙ found) in
    let formed = c.in_ok-text_of.ensures.form in
    let text : set_text (stored_files a.number r.tables) ≡ c.of.result = ap set_text (sym stored) ∙ sym formed.1 ∙ search rules in
    record {
      same = c.in_ok-rows.ensures.same clean office;
      answered = λ visit. bag_is r.tables a.number (subst IsBag stored formed.0) ∙ ap (λ text. Some (answers.Bag text)) text;
      intact = ap (list_all (λ f. is_intact_at a.number f.path r)) (sym found) ∙ checked;
      leaves = λ k. refl;
    }
