-- Bytes that the desk refuses.
use Rattle.desk_serving.proofs.Common.{◌≡◌, ℕ, List, Bool, true, false, rules, Ok, Err, Date, Held, Ghosts, HeardValue, Hears, refusal_text, IsAnswered}
use Rattle.desk_routes.specs.declared.refusal.DeskRefusal.{DeskRefusal}
use Rattle.desk_routes.specs.declared.refusal.DeskRefusal.TheVariants.{Truncated}
use Rattle.desk_hearing.proofs.OneHearing.{one_hearing}

pub refused : {S : Type 0} (g : Ghosts S) (done : Bool) (day : Date) (bytes text : List ℕ) (refusal : DeskRefusal) (old new : Held S)
    → Hears bytes (Err refusal) → IsAnswered g (record { day = day; bytes = bytes }) (record { text = text; done = done }) old new → (new ≡ old) × (text ≡ refusal_text refusal)
refused g true day bytes text refusal old new hears answered =
    let same = one_hearing bytes (Ok answered.1.0) (Err refusal) answered.1.1 hears in
    search rules
refused g false day bytes text refusal old new hears answered =
    let same = one_hearing bytes (Err answered.0) (Err refusal) answered.1 hears in
    search rules

-- a request that is heard is not cut short
pub heard_whole : (bytes : List ℕ) (heard : HeardValue) → Hears bytes (Ok heard) → Hears bytes (Err Truncated) → ⊥
heard_whole bytes heard hears short =
    let same = one_hearing bytes (Ok heard) (Err Truncated) hears short in
    search rules

pub cut_short : (bytes : List ℕ) (refusal : DeskRefusal) → Hears bytes (Err refusal) → Hears bytes (Err Truncated) → refusal ≡ Truncated
cut_short bytes refusal hears short =
    let same = one_hearing bytes (Err refusal) (Err Truncated) hears short in
    search rules
