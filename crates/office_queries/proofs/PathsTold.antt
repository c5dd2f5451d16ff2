-- Paths that are asked for as bytes: what is read of them.
use Rattle.office_queries.proofs.Common.{◌≡◌, ℕ, Bool, true, false, List, Some, None, refl, cond, same_Some}

pub spelled : (b : Bool) (text bytes : List ℕ) → Some text ≡ cond b (Some bytes) None → (text ≡ bytes) × (b ≡ true)
spelled true text bytes e = (same_Some _ _ e, refl)
spelled false text bytes e = absurd cc

pub unspelled : (b : Bool) (bytes : List ℕ) → None ≡ cond b (Some bytes) None → b ≡ false
unspelled true bytes e = absurd cc
unspelled false bytes e = refl
