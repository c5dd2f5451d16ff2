-- The first refusal of some, and then of more.
use Rattle.office_access.proofs.Common.{◌≡◌, List, [], ◌∷◌, ◌++◌, Option, Some, None, refl, Refusal, first_told}

-- where none of the first stands, it is that of the others
pub none_first : (first others : List (Option (Option Refusal))) → first_told first ≡ Some None → first_told (first ++ others) ≡ first_told others
none_first [] others none = refl
none_first (None ∷ first) others none = cc
none_first (Some (Some why) ∷ first) others none = cc
none_first (Some None ∷ first) others none = none_first first others none

-- one of the first stands, whatever the others are
pub one_first : (first others : List (Option (Option Refusal))) (why : Refusal) → first_told first ≡ Some (Some why) → first_told (first ++ others) ≡ Some (Some why)
one_first [] others why one = cc
one_first (None ∷ first) others why one = cc
one_first (Some (Some found) ∷ first) others why one = one
one_first (Some None ∷ first) others why one = one_first first others why one
