use Rattle.office_tables.proofs.Common.{Ok, map, drop, Schema, HasCleanDisk, state, Builds, Grows, IsBlank, IsWhole, GoesOnInTurn}
use Rattle.office_tables.proofs.creating.define.Given as goal

abbrev pub invariant-loop-text : goal.invariant-loop-text
invariant-loop-text g l = record {
  inside : GoesOnInTurn {T = Unit {0}} g.S.Store l.fn.tx.conn l.tx.conn (Ok tt);
  made : HasCleanDisk (state g.S.Store l.tx.conn.now) → (first last : Schema) → Builds first (map (λ t. t.now) l.texts) last → IsBlank first (state g.S.Store l.fn.tx.conn.now).now
      → (mid : Schema) × Builds mid (map (λ t. t.now) (drop l.text-index l.texts)) last × IsBlank mid (state g.S.Store l.tx.conn.now).now;
  grown : HasCleanDisk (state g.S.Store l.tx.conn.now) → (first last : Schema) → Builds first (map (λ t. t.now) l.texts) last → IsWhole first (state g.S.Store l.fn.tx.conn.now).now
      → (mid : Schema) × Builds mid (map (λ t. t.now) (drop l.text-index l.texts)) last × Grows first mid (state g.S.Store l.fn.tx.conn.now).now (state g.S.Store l.tx.conn.now).now;
}
