-- What is read, as the functions over rows say it.
use Rattle.office_tables.specs.declared.holds.HoldTarget.{HoldTarget}
use Rattle.office_tables.specs.declared.holds.HoldTarget.TheVariants.{Deposit, Collection, Class}
use Rattle.office_history.specs.Histories.{Target, OnDeposit, OnCollection, OnClass}
use Rattle.office_by_rows.specs.Asking.{Days}
use Rattle.office_access.specs.declared.deposits.DepositDays.{DepositDays}

abbrev pub told_days : DepositDays → Days
told_days days = record { closed = days.closed; deposited = days.deposited; gone = days.gone }

-- what a hold is on
abbrev pub held_target : HoldTarget → Target
held_target (Deposit number) = OnDeposit number
held_target (Collection name) = OnCollection name.now
held_target (Class name) = OnClass name.now
