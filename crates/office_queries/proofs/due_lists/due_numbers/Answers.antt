use Rattle.office_queries.proofs.Common.{◌≡◌, ap, ◌∙◌, rules, w32, w64, Some, sym, SFits, to_z-of_z, IfOk-weaker, state, disposable_rows, tables_of, role_name, office_still, told_before, clean_first, inside_failed, inside_then, then_in_turn, ◌>>=◌, disposable_told, things_told}
use Rattle.jiff.specs.Words.{epoch_day}
use Rattle.office_queries.proofs.due_lists.due_numbers.Goals as goal

pub returns-in_err-rows-clause-inside : goal.returns-in_err-rows-clause-inside
returns-in_err-rows-clause-inside g c = inside_failed c.in_ok-asker.ensures.inside c.due_rows.ensures.inside _ (search rules) (search rules)

pub returns-clause-inside : goal.returns-clause-inside
returns-clause-inside g c = then_in_turn (inside_then c.in_ok-asker.ensures.inside c.in_ok-rows.ensures.inside) c.allowed_among.ensures.inside

pub returns-clause-reads : goal.returns-clause-reads
returns-clause-reads g c clean office =
    let a = c.args in
    let t = tables_of (state g.S.Store a.tx.now.conn.now).now in
    let s1 = state g.S.Store c.read.new.tx.conn.now in
    let clean2 = clean_first c.allowed_among.ensures.inside.stays clean in
    let clean1 = clean_first c.due_rows.ensures.inside.stays clean2 in
    let asker = c.in_ok-asker.asker in
    let asked = c.in_ok-asker.ensures.reads clean1 office in
    let still = office_still asked.0 office in
    let same = c.in_ok-rows.ensures.same clean2 still ∙ asked.0 in
    let small : SFits w32 c.number.result = search rules in
    let fits : SFits w64 c.number.result = search rules in
    let found : c.in_ok-rows.rows.items ≡ disposable_rows (epoch_day a.day) (tables_of s1.now) =
    rw (to_z-of_z w32 c.number.result small, to_z-of_z w64 c.number.result fits, c.number.ensures.value) at (c.in_ok-rows.ensures.found clean2 still) in
    let places_are = c.deref.ensures.value ∙ found ∙ ap (λ db. disposable_rows (epoch_day a.day) (tables_of db)) asked.0 in
    IfOk-weaker c.allowed_among.result _ _ (λ numbers says.
    let told = told_before same (λ t. things_told (disposable_told t (role_name asker) asker.day) c.deref.result.now ≡ Some numbers.items) says.1 in
    (says.0 ∙ same, (λ i. asked.1.role i >>= λ role. things_told (disposable_told t role (sym asked.1.on i)) (sym places_are i)) ∙ told))
    (c.allowed_among.ensures.reads clean (office_still same office))
