-- The terms that statements have in common: which columns a query shows, and what an INSERT takes of its parameters.
use Rattle.office_contents.proofs.Common.{ℕ, zero, suc, List, [], ◌∷◌, Null, Term, lit, col}

-- this column alone
abbrev pub only : ℕ → List Term
only place = col 1 place ∷ []

-- as many parameters, from that one on
abbrev pub given_from : ℕ → ℕ → List Term
given_from param zero = []
given_from param (suc more) = col 0 param ∷ given_from (suc param) more

-- the row of a table whose key is no number: its rowid is chosen, and each column is a parameter
abbrev pub all_given : ℕ → List Term
all_given count = lit Null ∷ given_from 0 count
