use Rattle.office_deposits.proofs.Lemmas.{subst, rules, w64, pos, ◌∙◌, refl, sym, ap, Some, Ok, SFits, to_z-of_z, on_ok_weaker, state, tables_of, TableFault, clean_first, inside_failed, inside_then, then_in_turn, digests_of, due_number, with_deposit_and_due, with_files, with_contents_of, Changes, office_still, rewritten_after, rewritten_as, rewrites_then_in_turn, row_of, stored_with_due, kept_beside}
use Rattle.office_deposits.proofs.storing.store_deposit.Goals as goal

pub add_files-requires : goal.add_files-requires
add_files-requires g c = c.requires ∙ ap digests_of (sym c.files.ensures.whole)

pub returns-in_err-put_row-clause-inside : goal.returns-in_err-put_row-clause-inside
returns-in_err-put_row-clause-inside g c = inside_failed c.in_ok-holds.ensures.inside c.put_row.ensures.inside _ (search rules) (search rules)

pub returns-clause-inside : goal.returns-clause-inside
returns-clause-inside g c = then_in_turn (inside_then c.in_ok-holds.ensures.inside c.in_ok-put_row.ensures.inside) c.add_files.ensures.inside

pub returns-clause-changes : goal.returns-clause-changes
returns-clause-changes g c clean office =
    let a = c.args in
    let q = a.details.now in
    let bag = a.bag.now in
    let row = row_of q a.number bag in
    let holds = c.in_ok-holds.holds in
    let fits : SFits w64 holds = search rules in
    let t = tables_of (state g.S.Store a.tx.now.conn.now).now in
    let put = c.in_ok-put_row.ensures in
    let add = c.add_files.ensures in
    let early = clean_first put.inside.stays (clean_first add.inside.stays clean) in
    let read = (rw (c.as_str-collection.ensures.text, c.as_str-class.ensures.text) at c.in_ok-holds.ensures.reads) early office in
    let is = c.in_ok-new.ensures.row bag c.count_payload.ensures.files c.count_payload.ensures.bytes in
    let wrote = subst (λ row. Changes {T = Unit {0}} {E = TableFault} g.S.Store c.live_count.new.tx.conn.now c.put_row.new.tx.conn.now (Ok tt) (λ t. Some (with_deposit_and_due row (due_number a.due) holds t))) is (rw (to_z-of_z w64 holds fits) at put.changes) in
    let both = rewrites_then_in_turn put.inside add.inside (λ t. Some (with_deposit_and_due row (due_number a.due) holds t)) (λ t. Some (with_files (pos a.number) bag t)) (λ t k. k) (λ t k. with_contents_of bag k) (λ t k. with_contents_of bag k) (λ t mid is k. refl)
    wrote (rw c.files.ensures.whole at add.changes) clean (office_still read.0 office) in
    let kept = kept_beside a.number row a.due bag t holds read.1 in
    on_ok_weaker c.add_files.result (λ it. rewritten_as (λ t. Some (with_files (pos a.number) bag (with_deposit_and_due row (due_number a.due) holds t))) (stored_with_due a.number row a.due bag) (λ t k. with_contents_of bag k) (λ t k. with_contents_of bag k) (sym kept) refl
    (rewritten_after (λ t. Some (with_files (pos a.number) bag (with_deposit_and_due row (due_number a.due) holds t))) (λ t k. with_contents_of bag k) read.0 it)) both
