use Rattle.office_access.proofs.Lemmas.{rules, refl, ap, inl, inr, ◌≡◌, sym, ◌∙◌, pos, none-some, Some, w64, SFits, to_z-of_z, state, tables_of, Store, office_still, there_is, told_before, clean_first, in_turn, inside_after, inside_failed, none_called, counted_hold_in, FindsNoHold, found_told, least_hold_in, no_least, counted_read}
use Rattle.office_access.proofs.due.counted_hold.Goals as goal

pub returns-then-count-eq0-clause-inside : goal.returns-then-count-eq0-clause-inside
returns-then-count-eq0-clause-inside g c = none_called _ (search rules)

pub returns-clause-inside : goal.returns-clause-inside
returns-clause-inside g c = in_turn (inside_after c.in_ok-check_count.ensures.inside c.in_ok-found.ensures.inside _ (search rules))

pub returns-in_err-hold-clause-inside : goal.returns-in_err-hold-clause-inside
returns-in_err-hold-clause-inside g c = in_turn (inside_failed c.in_ok-check_count.ensures.inside c.least_hold.ensures.inside _ (search rules) (search rules))

pub returns-then-count-eq0-clause-reads : goal.returns-then-count-eq0-clause-reads
returns-then-count-eq0-clause-reads g c clean office =
    let a = c.args in
    let none : a.count ≡ pos 0 = search rules in
    (refl, ap (λ m. counted_hold_in (tables_of (state g.S.Store a.tx.now.conn.now).now) m a.number a.collection.now a.class.now) none)

pub returns-clause-reads : goal.returns-clause-reads
returns-clause-reads g c clean office =
    let a = c.args in
    let t = tables_of (state g.S.Store a.tx.now.conn.now).now in
    let k = c.in_ok-hold.hold in
    let kept = c.in_ok-check_count.ensures.reads (clean_first c.least_hold.ensures.inside.stays clean) office in
    let some : Some k ≡ c.in_ok-found.found = there_is c.in_ok-found.found Store k c.in_ok-hold.ensures in
    let found = c.in_ok-found.ensures.reads clean (office_still kept.0 office) in
    let least = found_told _ (λ k. least_hold_in (tables_of (state g.S.Store c.check_count.new.tx.conn.now).now) a.number a.collection.now a.class.now ≡ Some k) c.in_ok-found.found k some found.1 in
    let fits : SFits w64 a.count = search rules in
    let not_none : a.count ≡ pos 0 → ⊥ = search rules in (
      found.0 ∙ kept.0,
      counted_read a.number a.collection.now a.class.now t a.count k not_none (rw (to_z-of_z w64 a.count fits) at kept.1) (told_before kept.0 (λ t. least_hold_in t a.number a.collection.now a.class.now ≡ Some k) least),
    )

pub returns-in_err-found-clause-inside : goal.returns-in_err-found-clause-inside
returns-in_err-found-clause-inside g c = in_turn (inside_failed c.in_ok-check_count.ensures.inside c.least_hold.ensures.inside _ (search rules) (search rules))

pub returns-clause-store : goal.returns-clause-store
returns-clause-store g c clean office lies =
    let a = c.args in
    let mid = tables_of (state g.S.Store c.check_count.new.tx.conn.now).now in
    let k = c.in_ok-hold.hold in
    let kept = rw (to_z-of_z w64 a.count c.ranges.count) at (c.in_ok-check_count.ensures.reads (clean_first c.least_hold.ensures.inside.stays clean) office) in
    let found = c.in_ok-found.ensures.reads clean (office_still kept.0 office) in
    let least = found_told _ (λ k. least_hold_in mid a.number a.collection.now a.class.now ≡ Some k) c.in_ok-found.found k (there_is c.in_ok-found.found Store k c.in_ok-hold.ensures) found.1 in
    absurd (elim lies.1 [
      | inl count ↦ count kept.1
      | inr none ↦ none-some k (sym (no_least a.number a.collection.now a.class.now mid (told_before (sym kept.0) (FindsNoHold a.number a.collection.now a.class.now) none)) ∙ least)
    ])

pub returns-in_err-found-clause-store : goal.returns-in_err-found-clause-store
returns-in_err-found-clause-store g c clean office lies =
    let a = c.args in
    let kept = rw (to_z-of_z w64 a.count c.ranges.count) at (c.in_ok-check_count.ensures.reads (clean_first c.least_hold.ensures.inside.stays clean) office) in
    elim lies.1 [
      | inl count ↦ absurd (count kept.1)
      | inr none ↦ (let it = c.least_hold.ensures.store clean (office_still kept.0 office) (told_before (sym kept.0) (FindsNoHold a.number a.collection.now a.class.now) none) in search (rules, it))
    ]
