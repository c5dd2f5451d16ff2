use Rattle.desk_heads.proofs.Common.{◌≡◌, ℕ, List, Bool, true, false, refl, None, IsUtf8, is_name, answer_if}
use Rattle.desk_heads.proofs.HeadLemmas.{name_is_text}
use Rattle.desk_heads.proofs.head.name_of.Goals as goal

no_name : (bytes : List ℕ) → (IsUtf8 bytes → ⊥) → None ≡ answer_if (is_name bytes) bytes
no_name bytes bad = by (is_name bytes) refl
  where
    by : (v : Bool) → is_name bytes ≡ v → None ≡ answer_if v bytes
    by true e = absurd (bad (name_is_text bytes e))
    by false e = refl

pub returns-in-Err : goal.returns-in-Err
returns-in-Err c = no_name c.args.bytes.now c.in-Err.ensures.cases.0
