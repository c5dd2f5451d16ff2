use Rattle.office_queries.proofs.Lemmas.{◌≡◌, ◌∙◌, ℕ, ◌+◌, ◌<◌, refl, sym, ap, subst, List, [], ◌∷◌, ◌++◌, Some, pos, map, take, length, get_or, arith, take_all, HasCleanDisk, state, Tables, tables_of, clean_first, in_turn, none_called, turn_as, turn_then, told_hold, all_told, office_still, all_next}
use Rattle.office_core.specs.declared.answer.LiveHold.{LiveHold}
use Rattle.office_queries.proofs.hold_lists.told_each.Goals as goal

-- one number after another, whose row is read where no row has changed
next_read : (old now : Tables) → now ≡ old → (ks : List ℕ) (i d : ℕ) → i < length ks → (before : List LiveHold) → all_told (told_hold old) (map pos (take i ks)) ≡ Some before → (told : LiveHold)
    → told_hold now (pos (get_or ks i d)) ≡ Some told → all_told (told_hold old) (map pos (take (i + 1) ks)) ≡ Some (before ++ told ∷ [])
next_read old now same ks i d low before all told is = all_next (told_hold old) pos ks i d low before all told (subst (λ t. told_hold t (pos (get_or ks i d)) ≡ Some told) same is)

pub loop-number-preserved : goal.loop-number-preserved
loop-number-preserved g c =
    let a = c.args in
    let old = state g.S.Store a.tx.now.conn.now in
    let now = state g.S.Store c.loop-number.tx.conn.now in
    let new = state g.S.Store c.told_hold.new.tx.conn.now in
    let inv = c.loop-number.invariant in
    let early = λ (clean : HasCleanDisk new). clean_first c.told_hold.ensures.inside.stays clean in
    record {
      inside = turn_as (turn_then inv.inside (in_turn c.in_ok-told_hold.ensures.inside)) _ tt;
      reads = λ clean office.
          let before = inv.reads (early clean) office in
          let said = c.in_ok-told_hold.ensures.reads clean (office_still before.0 office) in
          let more = next_read (tables_of old.now) (tables_of now.now) (ap tables_of before.0) a.numbers.now c.loop-number.number-index _ c.loop-number-test.true c.loop-number.told.items before.1 c.in_ok-told_hold.field-0 said.1 in
          (said.0 ∙ before.0, more ∙ ap Some (sym c.in_ok-push.ensures.items));
    }

pub loop-number-init : goal.loop-number-init
loop-number-init g c = record {
  inside = none_called _ tt;
  reads = λ clean office. (refl, ap Some (sym c.new-told.ensures.items));
}

pub returns-clause-reads : goal.returns-clause-reads
returns-clause-reads g c clean office =
    let a = c.args in
    let read = c.loop-number.invariant.reads clean office in
    let finished : take c.loop-number.number-index a.numbers.now ≡ a.numbers.now = take_all c.loop-number.number-index a.numbers.now (omega (arith, c.loop-number-test.false)) in
    (read.0, ap (λ ks. all_told (told_hold (tables_of (state g.S.Store a.tx.now.conn.now).now)) (map pos ks)) (sym finished) ∙ read.1)
