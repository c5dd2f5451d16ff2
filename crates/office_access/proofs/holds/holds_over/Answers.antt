use Rattle.office_access.proofs.Lemmas.{rules, ◌≡◌, [], inl, inr, false, map, pos, sym, true≢false, ◌∙◌, live_holds, state, tables_of, office_still, ok_both, told_before, clean_first, released_read}
use Rattle.office_access.proofs.holds.holds_over.Goals as goal

pub returns-clause-reads : goal.returns-clause-reads
returns-clause-reads g c clean office =
    let a = c.args in
    let early = clean_first c.live_holds.ensures.inside.stays clean in
    let same = c.in_ok-outside.ensures.same early office in
    let still = office_still same office in
    let inside : c.in_ok-outside.outside ≡ false = search rules in
    ok_both c.live_holds.result (λ numbers later are. (
      later ∙ same,
      (released_read a.number a.collection.now a.class.now (tables_of (state g.S.Store a.tx.now.conn.now).now).holds (sym (c.in_ok-outside.ensures.found early office) ∙ inside), told_before same (λ t. map pos numbers.items ≡ live_holds (pos a.number) a.collection.now a.class.now t) are),
    )) (c.live_holds.ensures.same clean still) (c.live_holds.ensures.found clean still)

pub returns-clause-store : goal.returns-clause-store
returns-clause-store g c clean office lies =
    let a = c.args in
    let early = clean_first c.live_holds.ensures.inside.stays clean in
    let same = c.in_ok-outside.ensures.same early office in
    let inside : c.in_ok-outside.outside ≡ false = search rules in
    elim lies [
      | inl outside ↦ absurd (true≢false (sym (released_read a.number a.collection.now a.class.now (tables_of (state g.S.Store a.tx.now.conn.now).now).holds (sym (c.in_ok-outside.ensures.found early office) ∙ inside)) ∙ outside))
      | inr none ↦ c.live_holds.ensures.store clean (office_still same office) (told_before (sym same) (λ t. live_holds (pos a.number) a.collection.now a.class.now t ≡ []) none)
    ]
