use Rattle.office_tables.proofs.Lemmas.{pos, [], sym, subst, state, ◌≡◌, ◌∙◌, IsOffice, tables_of, gathers_live, none_of_class, none_on, none_within, clean_first}
use Rattle.office_tables.proofs.Common.{Database, live_holds}
use Rattle.office_tables.proofs.holds.live_holds.Goals as goal

pub returns-clause-found : goal.returns-clause-found
returns-clause-found g c clean office =
    let clean_two = clean_first c.rows_of_holds_of_class.ensures.inside.stays clean in
    let clean_one = clean_first c.rows_of_holds_within.ensures.inside.stays clean_two in
    let on = c.in_ok-on_deposit.ensures.found clean_one office in
    let office_one = subst IsOffice (sym on.0) office in
    let within = c.in_ok-on_collection.ensures.found clean_two office_one in
    let of_class = c.in_ok-on_class.ensures.found clean (subst IsOffice (sym within.0) office_one) in
    gathers_live _ _ _ office on.0 within.0 (pos c.args.deposit) c.args.collection.now c.args.class.now
    c.in_ok-on_deposit.on_deposit.items c.in_ok-on_collection.on_collection.items c.in_ok-on_class.on_class.items
    c.new-numbers.result.items c.add_numbers.new.numbers.items c.add_numbers-2.new.numbers.items c.add_numbers-3.new.numbers.items c.sort_unstable.new.self.items
    on.1 within.1 of_class.1 c.new-numbers.ensures.items
    (rw c.deref.ensures.value at c.in_ok-add_numbers.ensures.added) (rw c.deref-2.ensures.value at c.in_ok-add_numbers-2.ensures.added) (rw c.deref-3.ensures.value at c.in_ok-add_numbers-3.ensures.added)
    c.sort_unstable.ensures.permutation c.sort_unstable.ensures.sorted

pub returns-in_err-add_numbers-clause-store : goal.returns-in_err-add_numbers-clause-store
returns-in_err-add_numbers-clause-store g c clean office none =
    let a = c.args in
    let clean_two = clean_first c.rows_of_holds_of_class.ensures.inside.stays clean in
    let on = c.in_ok-on_deposit.ensures.found (clean_first c.rows_of_holds_within.ensures.inside.stays clean_two) office in
    absurd ((rw c.deref.ensures.value at c.in_err-add_numbers.ensures.some) (none_on (pos a.deposit) a.collection.now a.class.now (state g.S.Store a.tx.now.conn.now).now none c.in_ok-on_deposit.on_deposit.items on.1))

pub returns-in_err-add_numbers-2-clause-store : goal.returns-in_err-add_numbers-2-clause-store
returns-in_err-add_numbers-2-clause-store g c clean office none =
    let a = c.args in
    let clean_two = clean_first c.rows_of_holds_of_class.ensures.inside.stays clean in
    let on = c.in_ok-on_deposit.ensures.found (clean_first c.rows_of_holds_within.ensures.inside.stays clean_two) office in
    let within = c.in_ok-on_collection.ensures.found clean_two (subst IsOffice (sym on.0) office) in
    let still = subst (λ (db : Database). live_holds (pos a.deposit) a.collection.now a.class.now (tables_of db) ≡ []) (sym on.0) none in
    absurd ((rw c.deref-2.ensures.value at c.in_err-add_numbers-2.ensures.some) (none_within (pos a.deposit) a.collection.now a.class.now (state g.S.Store c.rows_of_holds_on.new.tx.conn.now).now still c.in_ok-on_collection.on_collection.items within.1))

pub returns-in_err-add_numbers-3-clause-store : goal.returns-in_err-add_numbers-3-clause-store
returns-in_err-add_numbers-3-clause-store g c clean office none =
    let a = c.args in
    let clean_two = clean_first c.rows_of_holds_of_class.ensures.inside.stays clean in
    let on = c.in_ok-on_deposit.ensures.found (clean_first c.rows_of_holds_within.ensures.inside.stays clean_two) office in
    let office_one = subst IsOffice (sym on.0) office in
    let within = c.in_ok-on_collection.ensures.found clean_two office_one in
    let of_class = c.in_ok-on_class.ensures.found clean (subst IsOffice (sym within.0) office_one) in
    let still = subst (λ (db : Database). live_holds (pos a.deposit) a.collection.now a.class.now (tables_of db) ≡ []) (sym (within.0 ∙ on.0)) none in
    absurd ((rw c.deref-3.ensures.value at c.in_err-add_numbers-3.ensures.some) (none_of_class (pos a.deposit) a.collection.now a.class.now (state g.S.Store c.rows_of_holds_within.new.tx.conn.now).now still c.in_ok-on_class.on_class.items of_class.1))
