-- A form that grows by a file that is read.
use Rattle.std.specs.Prelude.{◌≡◌, ℕ, List, ◌++◌, length, string_bytes}
use Rattle.bag_text.specs.TransferForm.{entry}
use Rattle.bag_folders.specs.declared.listed.Listed.{Listed}

-- this number of bytes follows
abbrev pub AppendsSome : ℕ → List ℕ → List ℕ → Type 0
AppendsSome size old new = (content : List ℕ) × (length content ≡ size) × (new ≡ old ++ content)

-- the entry of a file follows that has the path and the size that are listed
abbrev pub AppendsEntry : Listed → List ℕ → List ℕ → Type 0
AppendsEntry l old new = (content : List ℕ) × (length content ≡ l.size) × (new ≡ old ++ entry (record { path = string_bytes l.path; content = content }))
