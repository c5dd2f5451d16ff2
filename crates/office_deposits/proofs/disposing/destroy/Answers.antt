use Rattle.office_deposits.proofs.Lemmas.{rules, w32, w64, pos, Some, sym, ap, SFits, to_z-of_z, same_Some, Tables, with_gone, without_files, inside_then, without_contents_of, changes_by, rewrites_then, rewrites_by}
use Rattle.jiff.specs.Words.{epoch_day}
use Rattle.office_deposits.proofs.disposing.destroy.Goals as goal

pub returns-clause-inside : goal.returns-clause-inside
returns-clause-inside g c = inside_then c.in_ok-mark_gone.ensures.inside c.drop_files.ensures.inside

-- a row that is marked leaves the files as they were, and so what goes of the contents
pub returns-clause-changes : goal.returns-clause-changes
returns-clause-changes g c =
    let n = pos c.args.number in
    let gone = epoch_day c.args.day in
    let mark = c.in_ok-mark_gone.ensures in
    let drop = c.drop_files.ensures in
    let small : SFits w32 c.number.result = search rules in
    let fits : SFits w64 c.number.result = search rules in
    let marks = rw (to_z-of_z w32 c.number.result small, to_z-of_z w64 c.number.result fits, c.number.ensures.value) at mark.becomes in
    let marked = changes_by mark.inside (with_gone n gone) marks mark.contents in
    let dropped = rewrites_by (without_files n) (λ t. without_contents_of n t.files) drop.inside drop.becomes drop.contents drop.references drop.once in
    rewrites_then mark.inside drop.inside (λ t. Some (with_gone n gone t)) (λ t. Some (without_files n t)) (λ t k. k) (λ t. without_contents_of n t.files) (λ t. without_contents_of n t.files)
    (λ t mid is k. ap (λ (rows : Tables). without_contents_of n rows.files k) (sym (same_Some _ _ is))) marked dropped
