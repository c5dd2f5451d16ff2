-- The changes of the plain office, as histories speak of them.
use Rattle.std.specs.Prelude.{List, [], ◌∷◌, Option, Some, None, option_map}
use denote.Ref.{Bor}
use Rattle.jiff.specs.Types.{Date}
use Rattle.office_history.specs.Histories.{Change, Installed, DefinedClass, DefinedCollection, Deposited, PlacedHold, ReleasedHold, Destroyed}
use Rattle.test_plain.specs.declared.change.Kind.{Kind}
use Rattle.test_plain.specs.declared.change.Kind.TheVariants as kinds

abbrev pub change_seen : Kind → Change
change_seen (kinds.Installed policy) = Installed policy
change_seen (kinds.DefinedClass day name years) = DefinedClass day name years
change_seen (kinds.DefinedCollection day name) = DefinedCollection day name
change_seen (kinds.Deposited day deposit) = Deposited day deposit
change_seen (kinds.PlacedHold day hold) = PlacedHold day hold
change_seen (kinds.ReleasedHold day k) = ReleasedHold day k
change_seen (kinds.Destroyed day n) = Destroyed day n

-- what is borrowed from the office, with its day
abbrev pub borrowed : {A : Type 0} → Option (Date × Bor A) → Option (Date × A)
borrowed found = option_map (λ x. (x.0, x.1.now)) found

-- the changes that an accepted request makes, at most one
abbrev pub changes_seen : Option Kind → List Change
changes_seen None = []
changes_seen (Some kind) = change_seen kind ∷ []
