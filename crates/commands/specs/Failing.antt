-- How a failure is printed, and what a device's error comes to.
use Rattle.std.specs.Prelude.{◌++◌, ◌∷◌, [], ℕ, List, codes}
use Rattle.std.specs.declared.io.ErrorKind.{ErrorKind}
use Rattle.std.specs.declared.io.ErrorKind.TheVariants.{OutOfMemory}
use Rattle.commands.specs.declared.failure.Failure.{Failure}
use Rattle.commands.specs.declared.failure.Failure.TheVariants as failures
use Rattle.commands.specs.declared.trouble.Trouble.{Trouble}
use Rattle.commands.specs.declared.trouble.Trouble.TheVariants as troubles

-- the line that says so on standard error
abbrev pub message_of : Failure → List ℕ
message_of failures.Device = codes "device" ++ 10 ∷ []
message_of failures.Memory = codes "memory" ++ 10 ∷ []

-- what a failed call on a device comes to
abbrev pub failure_of_kind : ErrorKind → Failure
failure_of_kind OutOfMemory = failures.Memory
failure_of_kind _ = failures.Device

-- which of the two failed, where there is nothing to say
abbrev pub failure_of_trouble : Trouble → Failure
failure_of_trouble (troubles.Device error) = failures.Device
failure_of_trouble troubles.Memory = failures.Memory
