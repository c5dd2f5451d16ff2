-- The rows of holds, and the history that they picture.
use Rattle.office_refines.proofs.Common.{◌≡◌, ℕ, suc, ◌+◌, ℤ, pos, Bool, false, not, ◌&&◌, ◌||◌, List, [], ◌∷◌, length, map, filter, Option, Some, None, option_map, unwrap_or, slice_get, is_none, is_some, refl, sym, ap, subst, ◌∙◌, arith, ◌++◌, Less, ◌==◌, if◌then◌else◌, bytes_eq, option_map_or, option_or, int_eq, int_cmp, AllByRecursion, Date, epoch_day, HoldRow, is_live_over, this_version, DueRow, with_hold, put_by, is_hold, with_released, put_last, History, Hold, Target, OnDeposit, OnCollection, OnClass, Deposit, holds, release_day, reaches, covers, Change, PlacedHold, with_changes, ReleasedHold, held_deposit, held_collection, held_class, hold_row, hold_rows, picture, row_by_release, due_rows, IsLegal, none_released, or_none, released_grown, one_hold, same_holds}
use Rattle.std.proofs.Math.Bool.{or-false}
use Rattle.office_rows.specs.Rows as rows
use Rattle.office_history.specs.Histories as histories
use Rattle.office_refines.proofs.NumberedRows.{rows_from, rows_are, same_number, rows_append, below, none_next, rows_changed, mark, numbers_passing}
use Rattle.office_refines.proofs.Unchanged.{same_classes, same_collection_rows, same_deposit_rows, same_file_rows, same_released, pictured_by}

pub hold_rows_are : (h : History) → hold_rows h ≡ rows_from (hold_row h) 1 (holds h)
hold_rows_are h = rows_are (hold_row h) (holds h)

pub live_same : (o : Option Date) → not (is_some (option_map epoch_day o)) ≡ is_none o
live_same None = refl
live_same (Some day) = refl

-- the row of a hold on this names the deposit, its collection or its class
abbrev names_it : Target → ℕ → Deposit → Bool
names_it target n deposit =
    unwrap_or (option_map (λ d. int_eq d (pos n)) (held_deposit target)) false
    || (unwrap_or (option_map (λ c. bytes_eq c deposit.description.collection) (held_collection target)) false || unwrap_or (option_map (λ c. bytes_eq c deposit.description.class) (held_class target)) false)

reach_same : (target : Target) (n : ℕ) (deposit : Deposit) → names_it target n deposit ≡ reaches target n deposit
reach_same (OnDeposit m) n deposit = or-false (int_eq (pos m) (pos n)) ∙ same_number m n
reach_same (OnCollection name) n deposit = or-false (bytes_eq name deposit.description.collection)
reach_same (OnClass name) n deposit = refl

pub live_told : (h : History) (n : ℕ) (deposit : Deposit) (version : ℤ) → rows.live_holds (pos n) deposit.description.collection deposit.description.class (picture version h) ≡ map pos (histories.live_holds h n deposit)
live_told h n deposit version =
    ap (λ (hs : List HoldRow). map (λ (r : HoldRow). r.number) (filter (is_live_over (pos n) deposit.description.collection deposit.description.class) hs)) (hold_rows_are h)
    ∙ numbers_passing (hold_row h) (λ r. r.number) (λ m x. refl) (is_live_over (pos n) deposit.description.collection deposit.description.class) (λ k. histories.is_live h k && covers h k n deposit) (holds h) 1 (λ i x e. λ j.
    live_same (release_day h (1 + i)) j && reached i x e j)
  where
    reached : (i : ℕ) (x : Date × Hold) → slice_get (holds h) i ≡ Some x → names_it x.1.target n deposit ≡ covers h (1 + i) n deposit
    reached i x e =
        let one : 1 + i ≡ suc i = omega arith in
        reach_same x.1.target n deposit ∙ ap (λ o. option_map_or (λ (hold : Date × Hold). reaches hold.1.target n deposit) o false) (sym e) ∙ ap (λ k. covers h k n deposit) (sym one)

-- ---- a hold is placed

module _ (h : History) (day : Date) (hold : Hold) (not_released : release_day h (1 + length (holds h)) ≡ None) where
  abbrev more : List Change
  more = PlacedHold day hold ∷ []

  abbrev longer : History
  longer = with_changes h more

  abbrev next : ℕ
  next = 1 + length (holds h)

  abbrev new_row : HoldRow
  new_row = row_by_release next None (day, hold)

  holds_told : put_by (λ (r : HoldRow). r.number) new_row (hold_rows h) ≡ hold_rows longer
  holds_told =
      put_last (λ (r : HoldRow). r.number) new_row (hold_rows h) (subst (AllByRecursion (λ (r : HoldRow). int_cmp r.number (pos next) ≡ Less)) (sym (hold_rows_are h)) (below (hold_row h) (λ r. r.number) (λ m x. refl) next (holds h) refl))
      ∙ (λ i. hold_rows_are h i ++ row_by_release next (sym not_released i) (day, hold) ∷ [])
      ∙ sym (rows_append (hold_row h) (holds h) ((day, hold) ∷ []) 1)
      ∙ (λ i. rows_from (λ m. row_by_release m (sym (same_released h more (λ k. refl) m) i)) 1 (holds h ++ (day, hold) ∷ []))
      ∙ ap (rows_from (hold_row longer) 1) (sym (one_hold h day hold [] refl))
      ∙ sym (hold_rows_are longer)

  -- where the counts over the deposits that the hold covers are told anew
  pub placed_told : (dues : List DueRow) → dues ≡ due_rows longer → record (with_hold new_row (picture this_version h)) { dues = dues } ≡ picture this_version longer
  placed_told dues is =
      pictured_by h more refl (sym (same_classes h more refl (λ name. refl))) (sym (same_collection_rows h more refl))
      (sym (same_deposit_rows h more refl (λ n. refl))) is (sym (same_file_rows h more refl (λ n. refl))) holds_told

-- the next hold is none that was released
pub not_yet : (h : History) → IsLegal h → release_day h (1 + length (holds h)) ≡ None
not_yet h legal = none_released h legal (1 + length (holds h)) (none_next (holds h))

-- ---- a hold is released

module _ (h : History) (day : Date) (k : ℕ) (live : release_day h k ≡ None) where
  abbrev end : List Change
  end = ReleasedHold day k ∷ []

  abbrev later : History
  later = with_changes h end

  pub released_then : (m : ℕ) → release_day later m ≡ option_or (release_day h m) (if k == m then Some day else None)
  released_then m = released_grown h end m ∙ ap (option_or (release_day h m)) (or_none (if k == m then Some day else None))

  abbrev ended : HoldRow → HoldRow
  ended r = if is_hold (pos k) r then record r { released = Some (epoch_day day) } else r

  ended_told : map ended (hold_rows h) ≡ hold_rows later
  ended_told =
      ap (map ended) (hold_rows_are h)
      ∙ rows_changed ended (hold_row h) (λ m. row_by_release m (release_day later m)) (holds h) 1 (λ i x e. mark (release_day h) (release_day later) k day live released_then row_by_release (1 + i) x)
      ∙ ap (rows_from (λ m. row_by_release m (release_day later m)) 1) (sym (same_holds h end refl))
      ∙ sym (hold_rows_are later)

  -- where the counts over the deposits that the hold covers are told anew
  pub released_told : (dues : List DueRow) → dues ≡ due_rows later → record (with_released (pos k) (epoch_day day) (picture this_version h)) { dues = dues } ≡ picture this_version later
  released_told dues is =
      pictured_by h end refl (sym (same_classes h end refl (λ name. refl))) (sym (same_collection_rows h end refl))
      (sym (same_deposit_rows h end refl (λ n. refl))) is (sym (same_file_rows h end refl (λ n. refl))) ended_told
