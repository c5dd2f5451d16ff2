use Rattle.office_tables.proofs.Lemmas.{rules, HasCleanDisk, state, IsOffice, tables_of, puts_policy, stored_once, same_after, clean_first}
use Rattle.office_tables.proofs.policy.put_policy.Goals as goal

pub returns : goal.returns
returns g c =
    let old = state g.S.Store c.args.tx.now.conn.now in
    let new = state g.S.Store c.add_rules.new.tx.conn.now in
    let clean3 = λ (clean : HasCleanDisk new). clean_first c.add_rules.ensures.inside.stays clean in
    let clean2 = λ (clean : HasCleanDisk new). clean_first c.add_callers.ensures.inside.stays (clean3 clean) in
    let clean1 = λ (clean : HasCleanDisk new). clean_first c.drop_rules.ensures.inside.stays (clean2 clean) in
    let first = λ (clean : HasCleanDisk new) (office : IsOffice old.now). c.in_ok-drop_callers.ensures.becomes (clean1 clean) office in
    let second = λ (clean : HasCleanDisk new) (office : IsOffice old.now). c.in_ok-drop_rules.ensures.becomes (clean2 clean) (first clean office).office in
    let third = λ (clean : HasCleanDisk new) (office : IsOffice old.now). c.in_ok-add_callers.ensures.becomes (clean3 clean) (second clean office).office in
    let same = λ (clean : HasCleanDisk new) (office : IsOffice old.now).
    same_after (c.in_ok-drop_callers.ensures.contents (clean1 clean) office)
    (same_after (c.in_ok-drop_rules.ensures.contents (clean2 clean) (first clean office).office)
    (same_after (c.in_ok-add_callers.ensures.contents (clean3 clean) (second clean office).office) (c.in_ok-add_rules.ensures.contents clean (third clean office).office))) in
    record {
      inside = search rules;
      becomes = λ clean office. puts_policy (tables_of old.now) c.args.callers.now c.args.rules.now _ _ _ new.now (first clean office) (second clean office) (third clean office)
          (c.in_ok-add_rules.ensures.becomes clean (third clean office).office);
      contents = same;
      once = λ clean office kept. stored_once (same clean office) kept;
    }
