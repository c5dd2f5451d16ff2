-- What the plain office may accept, and how it may fail.
use Rattle.std.specs.Prelude.{◌≡◌, ◌<◌, length}
use Rattle.office_core.specs.declared.answer.Answer.{Answer}
use Rattle.office_core.specs.declared.answer.Answer.TheVariants.{Refused}
use Rattle.office_core.specs.declared.refusal.Refusal.TheVariants.{Memory}
use Rattle.office_history.specs.Histories.{History, Change, Deposited, PlacedHold, deposits, holds}

-- the limits let this change be accepted
abbrev pub HasRoom : History → Change → Type 0
HasRoom h (Deposited day deposit) = length (deposits h) < h.max_deposits
HasRoom h (PlacedHold day hold) = length (holds h) < h.max_holds
HasRoom h _ = Unit {0}

-- a plain office has no store: memory alone may fail it
abbrev pub IsWantOfMemory : Answer → Type 0
IsWantOfMemory given = given ≡ Refused Memory
