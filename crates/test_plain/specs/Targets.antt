-- What a hold of the plain office names, as histories speak of it.
use Rattle.office_history.specs.Histories.{Target, OnDeposit, OnCollection, OnClass}
use Rattle.test_plain.specs.declared.change.Target as code
use Rattle.test_plain.specs.declared.change.Target.TheVariants as names

abbrev pub target_seen : code.Target → Target
target_seen (names.Deposit n) = OnDeposit n
target_seen (names.Collection name) = OnCollection name
target_seen (names.Class name) = OnClass name
