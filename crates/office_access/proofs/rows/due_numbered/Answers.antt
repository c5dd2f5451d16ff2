use Rattle.office_access.proofs.Common.{rules, ◌≡◌, IfSome, ap, sym, ok_or, Store, due_back}
use Rattle.office_core.specs.Retention.{IsDueNumber, due_number}
use Rattle.office_core.specs.declared.retention.Due.TheVariants.{On}
use Rattle.office_access.proofs.rows.due_numbered.Goals as goal

pub returns-in-Some-due_date-clause-reads : goal.returns-in-Some-due_date-clause-reads
returns-in-Some-due_date-clause-reads c =
    let number : due_number (On c.in-Some-due_date.date) ≡ c.args.number = search rules in
    let range : IfSome c.args.number IsDueNumber = search rules in
    ap (λ o. ok_or o Store) (sym (due_back c.args.number (On c.in-Some-due_date.date) number range))
