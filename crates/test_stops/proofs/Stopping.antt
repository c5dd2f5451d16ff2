-- What is found again after a stop.
use Rattle.test_stops.proofs.Common.{◌≡◌, ◌⊎◌, inl, inr, List, Option, Some, IfSome, Result, Ok, Err, OnErr, sym, subst, ∥∥₁_map, Trees, State, Answer, History, Item, IsStoredBy, IsStoredOfRun, IsLeftOf, IsLeftOfEither, IsLeftOfRun, Image}
use Rattle.office_tables.specs.Found.{HoldsWhere, PicksUp}
use Rattle.sqlite.specs.Files.{HoldsDatabase}
use Rattle.office_engine.proofs.Stored.{shown_kept}

-- what files hold of a history is picked up as that history
picked : (image : Image) (s : State) → PicksUp image s → (db : Trees) → HoldsDatabase image db → (h : History) → IsLeftOf h db → IsStoredBy h s
picked image s picks db held h left = shown_kept h left.0 s left.1 (picks db held left.0 left.1.office.whole.listed left.2)

pub either_found : (image : Image) (s : State) (g h : History) → PicksUp image s → HoldsWhere (IsLeftOfEither g h) image → ∥ (IsStoredBy g s ⊎ IsStoredBy h s) ∥₁
either_found image s g h picks holds = ∥∥₁_map holds (λ d. one d.0 d.2 d.1)
  where
    one : (db : Trees) → HoldsDatabase image db → IsLeftOfEither g h db → IsStoredBy g s ⊎ IsStoredBy h s
    one db held (inl left) = inl (picked image s picks db held g left)
    one db held (inr left) = inr (picked image s picks db held h left)

pub run_found : (image : Image) (s : State) (h : History) (items : List Item) (given : List Answer) → PicksUp image s → HoldsWhere (IsLeftOfRun h items given) image → ∥ IsStoredOfRun h items given s ∥₁
run_found image s h items given picks holds = ∥∥₁_map holds (λ d. (d.1.0, d.1.1, picked image s picks d.0 d.2 d.1.0 d.1.2))

-- what is so of all that a crash may leave is so of what the files hold
pub holds_all : (image : Image) (new : State) (P : Trees → Type 0) → ((left : Trees) → new.may_leave left → P left) → HoldsWhere new.may_leave image → HoldsWhere P image
holds_all image new P leaves holds = ∥∥₁_map holds (λ d. (d.0, leaves d.0 d.1, d.2))

pub on_err_both : {T E P Q R : Type 0} (r : Result T E) → (P → Q → R) → OnErr r P → OnErr r Q → OnErr r R
on_err_both (Ok x) f p q = tt
on_err_both (Err e) f p q = f p q

-- what is so of an item is so of a choice that is this item
pub if_some : {T : Type 0} (o : Option T) (x : T) (P : T → Type 0) → o ≡ Some x → P x → IfSome o P
if_some o x P is p = subst (λ y. IfSome y P) (sym is) p
