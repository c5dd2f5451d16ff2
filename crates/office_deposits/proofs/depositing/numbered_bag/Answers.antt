use Rattle.office_deposits.proofs.Lemmas.{IfOk-weaker, ◌≡◌, [], ◌∷◌, Some, IfOk, sym, ap, subst, ◌∙◌, result_err, state, bad_bag, tables_of, first_told, highest_deposit, number_after, all_told_first, both_of_ok}
use Rattle.office_deposits.proofs.depositing.numbered_bag.Goals as goal

pub returns-clause-reads : goal.returns-clause-reads
returns-clause-reads g c clean office =
    let t = tables_of (state g.S.Store c.args.tx.now.conn.now).now in
    let next = c.in_ok-number.ensures.reads clean office in
    let bad = bad_bag c.args.text.now in
    let told = ap (λ full. first_told (Some bad ∷ full ∷ [])) next.1.0 ∙ all_told_first (bad ∷ result_err c.in_ok-number.number ∷ []) in
    both_of_ok c.judged_bag.result _ _ _
    (λ asked is given. (next.0, (told ∙ ap Some (sym is), IfOk-weaker asked _ _ (λ new it. subst (λ number. IfOk number (λ n. number_after (highest_deposit t) ≡ Some n)) it.1 next.1.1) given)))
    c.judged_bag.ensures.refused c.judged_bag.ensures.given

pub returns-clause-bag : goal.returns-clause-bag
returns-clause-bag g c = IfOk-weaker c.judged_bag.result _ _ (λ asked given. IfOk-weaker asked _ _ (λ new is. is.0) given) c.judged_bag.ensures.given
