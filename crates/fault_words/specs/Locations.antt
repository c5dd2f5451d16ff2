-- Where a fault of a policy is, as it is printed.
use Rattle.std.specs.Prelude.{List, ℕ, []}
use Rattle.fault_words.specs.PolicyReasons.{caller_words, key_words, line_words}
use Rattle.fault_words.specs.declared.location.Location.{Location}
use Rattle.fault_words.specs.declared.location.Location.TheVariants.{Nowhere, Line, Key, Caller}

abbrev pub location_words : Location → List ℕ
location_words Nowhere = []
location_words (Line number) = line_words number
location_words (Key key) = key_words key.now
location_words (Caller name) = caller_words name.now
