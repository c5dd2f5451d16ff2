use Rattle.office_tables.proofs.Lemmas.{ℕ, ℤ, pos, w64, refl, rules, List, Option, None, Ok, option_map, Bor, to_z-of_z, HasCleanDisk, Executes, state, HoldRow, params_of, puts_hold, hold_was_new, bound_number, bound_text, add_hold_same}
use Rattle.office_tables.proofs.HoldTexts.{put_text}
use Rattle.office_tables.proofs.holds.add_hold.Goals as goal

abbrev put : ℕ → Option ℕ → Option (Bor (List ℕ)) → Option (Bor (List ℕ)) → List ℕ → ℤ → HoldRow
put number deposit collection class matter placed = record {
  number = pos number;
  deposit = option_map pos deposit;
  collection = option_map (λ t. t.now) collection;
  class = option_map (λ t. t.now) class;
  matter = matter;
  placed = placed;
  released = None;
}

pub returns : goal.returns
returns g c =
    let a = c.args in
    let old = state g.S.Store a.tx.now.conn.now in
    let new = state g.S.Store c.change.new.tx.conn.now in
    let placed = to_z-of_z w64 a.placed c.ranges.placed in
    let hold = put a.number a.deposit a.collection a.class a.matter.now a.placed in
    let ran : HasCleanDisk new → Executes put_text (params_of hold) old new (Ok c.in_ok-change.field-0) = λ clean. rw (
      c.params-to_sql.ensures,
      c.params-to_sql-2.ensures,
      c.params-to_sql-3.ensures,
      c.params-to_sql-4.ensures,
      c.params-to_sql-5.ensures,
      c.params-to_sql-6.ensures,
      placed,
      bound_number a.deposit,
      bound_text a.collection,
      bound_text a.class,
    ) at (c.in_ok-change.ensures.ran clean) in
    record {
      inside = search rules;
      becomes = λ clean office. puts_hold old new hold refl c.in_ok-change.field-0 office (ran clean);
      new_number = λ clean office. hold_was_new old new hold refl c.in_ok-change.field-0 office (ran clean);
      contents = λ clean office. add_hold_same _ old new c.in_ok-change.field-0 office (ran clean);
    }
