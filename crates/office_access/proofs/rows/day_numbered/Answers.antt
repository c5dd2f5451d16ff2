use Rattle.office_access.proofs.Common.{rules, ◌≡◌, ap, sym, ok_or, epoch_day, IsDayNumber, Store, day_back}
use Rattle.office_access.proofs.rows.day_numbered.Goals as goal

pub returns-in-Some-clause-reads : goal.returns-in-Some-clause-reads
returns-in-Some-clause-reads c =
    let number : epoch_day c.in-Some.day ≡ c.args.number = search rules in
    let range : IsDayNumber c.args.number = search rules in
    ap (λ o. ok_or o Store) (sym (day_back c.args.number c.in-Some.day number range))
