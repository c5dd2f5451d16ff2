-- Where a request is allowed, there is room for the change that it makes.
use Rattle.test_plain.proofs.Common.{◌≡◌, ℕ, List, [], ◌∷◌, None, subst, Date, History, Change, Deposited, PlacedHold, refusal, allowed_change, HasRoom, AtMostOne, allowed_of}
use Rattle.office_core.specs.declared.request.Request.{Request}
use Rattle.office_history.specs.Acceptance.{IsAllowed}

pub has_room : (h : History) (change : Change) → IsAllowed h change → HasRoom h change
has_room h (Deposited day deposit) allowed = allowed.room
has_room h (PlacedHold day hold) allowed = allowed.room
has_room h _ allowed = tt

-- the change of a request that isn't refused
pub room_for : (h : History) (day : Date) (caller : List ℕ) (request : Request) (change : Change) → refusal h day caller request ≡ None → allowed_change h day request ≡ change ∷ [] → HasRoom h change
room_for h day caller request change e is = has_room h change (subst (AtMostOne (IsAllowed h)) is (allowed_of h day caller request e))
