-- What is known of kinds of pairs, as more of them are asked.
use Rattle.office_queries.proofs.Common.{◌≡◌, ℕ, Bool, true, false, List, Option, Some, None, refl, sym, ap, subst, cond, option_copied, IfSome, HashMap, get, Updates, and_parts, bytes_eq-Decides, Bor, Kind, LentKind, kind_lent, same_kind, same_name}

-- names that are the same where they are lent
names_same : (a b : Option (Bor (List ℕ))) → same_name a b ≡ true → option_copied a ≡ option_copied b
names_same None None e = refl
names_same None (Some b) e = absurd cc
names_same (Some a) None e = absurd cc
names_same (Some a) (Some b) e = ap Some ((bytes_eq-Decides a.now b.now).0 e)

kinds_same : (a b : LentKind) → same_kind a b ≡ true → kind_lent a ≡ kind_lent b
kinds_same a b e =
    let parts = and_parts (same_name a.0 b.0) (same_name a.1 b.1) e in
    λ i. (names_same a.0 b.0 parts.0 i, names_same a.1 b.1 parts.1 i)

-- whichever thing is known of a kind
module _ (IsSo : Kind → Bool → Type 0) {S : Type 0} where
  abbrev pub AreRight : HashMap LentKind Bool S → Type 0
  AreRight known = (kind : LentKind) → IfSome (get same_kind known kind) (IsSo (kind_lent kind))

  -- of a kind that is known
  pub known_right : (known : HashMap LentKind Bool S) → AreRight known → (kind : LentKind) (is : Bool) → Some is ≡ get same_kind known kind → IsSo (kind_lent kind) is
  known_right known right kind is e = subst (λ o. IfSome o (IsSo (kind_lent kind))) (sym e) (right kind)

  -- one kind more
  pub more_right : (known more : HashMap LentKind Bool S) → AreRight known → (kind : LentKind) (is : Bool) → Updates same_kind known more kind (Some is) → IsSo (kind_lent kind) is → AreRight more
  more_right known more right kind is updates answer q = subst (λ o. IfSome o (IsSo (kind_lent q))) (sym (updates.0 q)) (by (same_kind kind q) refl)
    where
      by : (b : Bool) → same_kind kind q ≡ b → IfSome (cond b (Some is) (get same_kind known q)) (IsSo (kind_lent q))
      by true e = subst (λ of. IsSo of is) (kinds_same kind q e) answer
      by false e = right q
