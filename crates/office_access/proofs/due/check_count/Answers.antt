use Rattle.office_access.proofs.Lemmas.{pos, w64, Some, ap, option_map, ◌∙◌, to_z-of_z, on_ok_weaker, Limits, Store, is_between, if_kept, IfErr-weaker, subst, sym}
use Rattle.office_contents.specs.Faults.{IsStoreUnless}
use Rattle.office_access.proofs.due.check_count.Goals as goal

pub returns-clause-reads : goal.returns-clause-reads
returns-clause-reads g c clean office =
    let most = c.in_ok-limits.limits in
    let a = c.args in
    let same = c.in_ok-limits.ensures.same clean office in
    let read = rw (to_z-of_z w64 a.count c.ranges.count) at c.check_between.ensures.reads in
    on_ok_weaker c.check_between.result (λ kept. (same, ap (option_map (λ (limits : Limits). is_between (pos 1) limits.max_holds a.count)) (c.in_ok-limits.ensures.found clean office) ∙ ap Some kept))
    (if_kept (is_between (pos 1) (pos most.max_holds) a.count) Store c.check_between.result read)

pub returns-clause-store : goal.returns-clause-store
returns-clause-store g c clean office = IfErr-weaker c.check_between.result _ _ (λ fault is. subst (IsStoreUnless _) (sym is) tt) c.check_between.ensures.store
