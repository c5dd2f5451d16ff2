use Rattle.office_access.proofs.Lemmas.{rules, ◌≡◌, ◌≤ℤ◌, None, Store, day_numbered, if_any, days_read, no_days, some_read}
use Rattle.office_access.proofs.deposits.days_in.Goals as goal

pub returns-clause-reads : goal.returns-clause-reads
returns-clause-reads c =
    let row = c.args.row.now in
    let in_turn : row.closed ≤ℤ row.deposited = search rules in
    days_read row (record { closed = c.in_ok-day_numbered.field-0; deposited = c.in_ok-day_numbered-2.field-0; gone = c.in_ok-optional_day_numbered.field-0 }) in_turn
    (some_read (day_numbered row.closed) Store c.in_ok-day_numbered.field-0 (search rules))
    (some_read (day_numbered row.deposited) Store c.in_ok-day_numbered-2.field-0 (search rules))
    (some_read (if_any day_numbered row.gone) Store c.in_ok-optional_day_numbered.field-0 (search rules))

pub returns-in_err-optional_day_numbered-clause-none : goal.returns-in_err-optional_day_numbered-clause-none
returns-in_err-optional_day_numbered-clause-none c =
    let row = c.args.row.now in
    let untold : if_any day_numbered row.gone ≡ None = search rules in
    let none = no_days row untold in
    search (rules, none)
