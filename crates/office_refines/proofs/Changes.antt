-- The rows that a request leaves of a legal history, where nothing refuses it: the picture of the history after it.
use Rattle.office_refines.proofs.FirstLemmas.{◌≡◌, ℕ, ◌+◌, ◌≤◌, ℤ, pos, negsuc, neg_ℤ, ◌+ℤ◌, ◌&&◌, true, List, [], ◌∷◌, length, Option, Some, None, IsSome, is_some, map, filter, option_map, Result, refl, sym, ap, ◌∙◌, arith, if◌then◌else◌, option_map_or, Decides-eqb, length-map, length_push, same_Some, Date, IsBetween, epoch_day, signed_arith, File, max_years, ◌>>=◌, due_of, Refusal, Request, DefineClass, DefineCollection, HoldDeposit, HoldCollection, HoldClass, Release, Dispose, Never, ClassRow, DueRow, HoldRow, Tables, class_named, is_class, is_of_class, is_within, with_class, with_hold, with_holds, with_deposit_and_due, with_released, this_version, closing_of, IsPlaceable, IsReleasable, IsThere, allowed_change, changes_unless, deposit_change, bag_of, History, Change, Deposit, Hold, Target, OnDeposit, OnCollection, OnClass, DefinedClass, Deposited, PlacedHold, ReleasedHold, deposits, holds, live_holds, with_changes, years_in, years_of, last_said, due_rows, hold_row, picture, years_back, years_number, AreInRange, IsClassRow, IsLegal, allowed_of, depositable, disposable, grown_by_none, releasable, none_gone, all_numbered, HasTarget, limits_hold, placed_holds, ranged_deposits, is_between, years_of_number, Visit, target_of, allowed_rows, count_in, counted_on, counted_over, due_in, if_bag, stored_as, new_deposit, new_hold, placed, released, with_due_days, with_files, refusal_before, between, due_number, deposit_numbered, has_class, with_years, deposit_rows_are, live_told, not_yet, placed_told, released_told, bytes_eq-sym, eqb-sym, none_next, same_number, same_holds, few_live, LeavesDeposits, one_hold}
use Rattle.office_core.specs.declared.request.Request.TheVariants.{Deposit as MakeDeposit}
use Rattle.office_rows.specs.Rows as rows
use Rattle.office_history.specs.Answers as histories
use Rattle.office_history.specs.Refusals as refusing
use Rattle.office_refines.proofs.Answers.{next_deposit, next_hold}
use Rattle.office_refines.proofs.ClassesTold.{class_told, years_of_row}
use Rattle.office_refines.proofs.CollectionsTold.{collection_told}
use Rattle.office_refines.proofs.DepositedTold.{deposited_told}
use Rattle.office_refines.proofs.DuesGrown.{IsCounted, counted_if, counted_released, dues_of_those, dues_on}
use Rattle.office_refines.proofs.DuesPlaced.{counted_placed}
use Rattle.office_refines.proofs.DuesRevised.{days_set}
use Rattle.office_refines.proofs.GoneTold.{gone_told}
use Rattle.office_refines.proofs.Readings.{found_all, hold_at, kept_there, released_days}
use Rattle.office_refines.proofs.Refusals.{target_exact}

-- ---- numbers in their range

within : (count most : ℕ) → count ≤ most → is_between (pos 0) (pos most) (pos count) ≡ true
within count most few = between (pos 0) (pos most) (pos count) (omega (arith, signed_arith)) (omega (arith, signed_arith, few))

years_are : (number : ℤ) → IsBetween (neg_ℤ (pos 1)) (pos max_years) number → years_of_number number ≡ Some (years_back number)
years_are number ranged = ap (λ b. if b then Some (years_back number) else None) (between (neg_ℤ (pos 1)) (pos max_years) number ranged.0 ranged.1)

module _ (h : History) (legal : IsLegal h) (ranged : AreInRange this_version (picture this_version h)) where
  abbrev t : Tables
  t = picture this_version h

  -- ---- a class

  pub class_exact : (day : Date) (name : List ℕ) (years : Option ℕ) → with_years name years t ≡ Some (picture this_version (with_changes h (DefinedClass day name years ∷ [])))
  class_exact day name years =
      ap (λ ds. with_due_days years (map closing_of (filter (is_of_class name) ds)) (with_class name (years_number years) t)) (deposit_rows_are h)
      ∙ days_set name years h (deposits h) 1 (with_class name (years_number years) t) (ranged_deposits h legal)
      ∙ ap Some (class_told h day name years)

  -- ---- a deposit

  due_exact : (class : List ℕ) (closed : Date) → has_class h class ≡ true → due_in t class closed ≡ Some (option_map_or (due_of closed) (years_of h class) Never)
  due_exact class closed there = by (class_named class t.classes) refl (years_of h class) (years_of_row h class) there
    where
      by : (o : Option ClassRow) → class_named class t.classes ≡ o → (stands : Option (Option ℕ)) → option_map (λ (c : ClassRow). years_back c.years) o ≡ stands → is_some stands ≡ true
          → (o >>= λ (c : ClassRow). years_of_number c.years >>= λ years. Some (due_of closed years)) ≡ Some (option_map_or (due_of closed) stands Never)
      by (Some c) is (Some years) e there =
          (λ i. years_are c.years (found_all IsClassRow (is_class class) t.classes c ranged.classes is).years i >>= λ read. Some (due_of closed read))
          ∙ ap (λ read. Some (due_of closed read)) (same_Some _ _ e)
      by _ is _ e there = absurd cc

  count_exact : (n : ℕ) (d : Deposit) → count_in t n d.description.collection d.description.class ≡ Some (length (live_holds h n d))
  count_exact n d =
      ap (λ b. if b then Some (length (rows.live_holds (pos n) d.description.collection d.description.class t)) else None) (released_days h legal ranged n d.description.collection d.description.class)
      ∙ ap (λ ks. Some (length ks)) (live_told h n d this_version)
      ∙ ap Some (length-map (live_holds h n d) pos)

  abbrev next : ℕ
  next = 1 + length (deposits h)

  pub deposit_exact : (day : Date) (d : Deposit) → has_class h d.description.class ≡ true
      → stored_as (length (deposits h) + 1) (new_deposit (length (deposits h) + 1) d.description day d.bag) d.description.closed d.bag t ≡ Some (picture this_version (with_changes h (Deposited day d ∷ [])))
  deposit_exact day d there =
      let one : length (deposits h) + 1 ≡ next = omega arith in
      ap (λ n. stored_as n (new_deposit n d.description day d.bag) d.description.closed d.bag t) one
      ∙ (λ i. due_exact d.description.class d.description.closed there i >>= λ due. count_exact next d i >>= λ count. Some (with_files (pos next) d.bag (with_deposit_and_due (new_deposit next d.description day d.bag) (due_number due) (pos count) t)))
      ∙ ap Some (deposited_told h day d (none_gone h legal next (none_next (deposits h))))

  -- ---- the count of live holds over a deposit

  enough : (n : ℕ) (d : Deposit) → length (live_holds h n d) ≤ h.max_holds
  enough n d = omega (arith, few_live h n d, (limits_hold h legal).holds_in)

  -- whichever rows of holds were written before
  counted_exact : (hs : List HoldRow) (by : ℤ) (n : ℕ) (found : Date × Deposit) → deposit_numbered h n ≡ Some found → is_between (pos 0) (pos h.max_holds) (pos (length (live_holds h n found.1)) +ℤ by) ≡ true
      → counted_on n by (record t { holds = hs }) ≡ Some (with_holds (pos n) (pos (length (live_holds h n found.1)) +ℤ by) (record t { holds = hs }))
  counted_exact hs by n found there fits =
      let now = within (length (live_holds h n found.1)) h.max_holds (enough n found.1) in
      (λ i. kept_there h legal ranged n found there i >>= λ (kept : DueRow). (if is_between (pos 0) (pos h.max_holds) kept.holds && is_between (pos 0) (pos h.max_holds) (kept.holds +ℤ by) then Some (with_holds (pos n) (kept.holds +ℤ by) (record t { holds = hs })) else None))
      ∙ (λ i. if now i && fits i then Some (with_holds (pos n) (pos (length (live_holds h n found.1)) +ℤ by) (record t { holds = hs })) else None)

  -- a change of holds, of which one more or one less counts over each deposit that is reached
  module _ (more : List Change) (none : LeavesDeposits more) (silent : (name : List ℕ) → last_said (years_in name) more ≡ None) (by : ℤ) (hs : List HoldRow)
      (told : (dues : List DueRow) → dues ≡ due_rows (with_changes h more) → record t { holds = hs; dues = dues } ≡ picture this_version (with_changes h more)) (room : length (holds (with_changes h more)) ≤ h.max_holds) where
    over_exact : (target : Target) → IsCounted h more by target → IsThere h target → counted_over target by (record t { holds = hs }) ≡ Some (picture this_version (with_changes h more))
    over_exact (OnDeposit n) counted there = over (deposit_numbered h n) refl there
      where
        over : (o : Option (Date × Deposit)) → deposit_numbered h n ≡ o → IsSome o → counted_on n by (record t { holds = hs }) ≡ Some (picture this_version (with_changes h more))
        over None at there = absurd cc
        over (Some found) at there =
            let counted_then : pos (length (live_holds h n found.1)) +ℤ by ≡ pos (length (live_holds (with_changes h more) n found.1)) =
            ap (λ b. counted_if b by (length (live_holds h n found.1))) (sym ((Decides-eqb n n).1 refl)) ∙ counted n found.1 in
            counted_exact hs by n found at (ap (is_between (pos 0) (pos h.max_holds)) counted_then ∙ within (length (live_holds (with_changes h more) n found.1)) h.max_holds (omega (arith, few_live (with_changes h more) n found.1, room)))
            ∙ ap Some (told _ (dues_on h more none silent by (OnDeposit n) counted n found at (λ m d. eqb-sym n m ∙ sym (same_number m n))))
    over_exact (OnCollection name) counted there = ap Some (told _ (dues_of_those h more none silent by (OnCollection name) counted (is_within name) (λ m x. bytes_eq-sym name x.1.description.collection)))
    over_exact (OnClass name) counted there = ap Some (told _ (dues_of_those h more none silent by (OnClass name) counted (is_of_class name) (λ m x. bytes_eq-sym name x.1.description.class)))

  -- ---- a hold is placed

  module _ (day : Date) (hold : Hold) (allowed : IsPlaceable h hold) where
    abbrev with_it : Tables
    with_it = with_hold (new_hold (1 + length (holds h)) hold.target hold.matter day) t

    pub placed_exact : placed day hold.target hold.matter t ≡ Some (picture this_version (with_changes h (PlacedHold day hold ∷ [])))
    placed_exact =
        let one : length (holds h) + 1 ≡ 1 + length (holds h) = omega arith in
        (λ i. (next_hold h legal ranged ∙ ap Some one) i >>= λ k. counted_over hold.target (pos 1) (with_hold (new_hold k hold.target hold.matter day) t))
        ∙ over_exact (PlacedHold day hold ∷ []) refl (λ name. refl) (pos 1) with_it.holds (placed_told h day hold (not_yet h legal)) (omega (arith, allowed.room, ap length (one_hold h day hold [] refl), length_push (holds h) (day, hold)))
        hold.target (counted_placed h day hold (not_yet h legal)) allowed.there

  -- ---- a hold is released

  module _ (day : Date) (k : ℕ) (it : IsReleasable h k) where
    abbrev longer : History
    longer = with_changes h (ReleasedHold day k ∷ [])

    abbrev without_it : Tables
    without_it = with_released (pos k) (epoch_day day) t

    pub released_exact : released day k t ≡ Some (picture this_version longer)
    released_exact =
        (λ i. (hold_at h legal ranged k ∙ ap (option_map (hold_row h k)) it.there) i >>= λ (row : HoldRow). target_of row >>= λ target. counted_over target (negsuc 0) without_it)
        ∙ (λ i. target_exact h legal ranged k it.found i >>= λ target. counted_over target (negsuc 0) without_it)
        ∙ over_exact (ReleasedHold day k ∷ []) refl (λ name. refl) (negsuc 0) without_it.holds (released_told h day k it.live) (omega (arith, (limits_hold h legal).holds_in, ap length (same_holds h (ReleasedHold day k ∷ []) refl)))
        it.found.1.target (counted_released h day k it.found it.there it.live) (all_numbered (HasTarget h) (holds h) k it.found (placed_holds h legal) it.there)

  -- ---- any request

  -- what a request changes, where nothing refuses it
  changed : (visit : Visit) (request : Request) → refusing.refusal h visit.day visit.caller request ≡ None
      → Some (picture this_version (with_changes h (allowed_change h visit.day request))) ≡ Some (picture this_version (histories.after h visit.day visit.caller request))
  changed visit request free = ap (λ o. Some (picture this_version (with_changes h (changes_unless o (allowed_change h visit.day request))))) (sym free)

  -- and where there is nothing that it may change
  unchanged : (why : Option Refusal) → Some t ≡ Some (picture this_version (with_changes h (changes_unless why [])))
  unchanged None = ap (λ x. Some (picture this_version x)) (grown_by_none h)
  unchanged (Some why) = ap (λ x. Some (picture this_version x)) (grown_by_none h)

  pub rows_exact : (visit : Visit) (request : Request) → refusal_before h visit.day visit.caller request ≡ None → allowed_rows t visit request ≡ Some (picture this_version (histories.after h visit.day visit.caller request))
  rows_exact visit (DefineClass name years) free = class_exact visit.day name years ∙ changed visit (DefineClass name years) free
  rows_exact visit (DefineCollection name) free = ap Some (collection_told h visit.day name) ∙ changed visit (DefineCollection name) free
  rows_exact visit (MakeDeposit description bag) free =
      let it = depositable h visit.day visit.caller description bag.now free in
      let d : Deposit = record { description = description; bag = it.0 } in
      (λ i. next_deposit h legal ranged i >>= λ n. if_bag (bag_of bag.now) (λ files. stored_as n (new_deposit n description visit.day files) description.closed files t))
      ∙ (λ i. if_bag (it.1 i) (λ files. stored_as (length (deposits h) + 1) (new_deposit (length (deposits h) + 1) description visit.day files) description.closed files t))
      ∙ deposit_exact visit.day d it.2.class
      ∙ ap (λ (read : Result (List File) (List ℕ)). Some (picture this_version (with_changes h (deposit_change visit.day description read)))) (sym it.1)
      ∙ changed visit (MakeDeposit description bag) free
  rows_exact visit (HoldDeposit n matter) free =
      placed_exact visit.day (record { target = OnDeposit n; matter = matter }) (allowed_of h visit.day visit.caller (HoldDeposit n matter) free) ∙ changed visit (HoldDeposit n matter) free
  rows_exact visit (HoldCollection name matter) free =
      placed_exact visit.day (record { target = OnCollection name; matter = matter }) (allowed_of h visit.day visit.caller (HoldCollection name matter) free) ∙ changed visit (HoldCollection name matter) free
  rows_exact visit (HoldClass name matter) free =
      placed_exact visit.day (record { target = OnClass name; matter = matter }) (allowed_of h visit.day visit.caller (HoldClass name matter) free) ∙ changed visit (HoldClass name matter) free
  rows_exact visit (Release k) free = released_exact visit.day k (releasable h visit.day visit.caller k free) ∙ changed visit (Release k) free
  rows_exact visit (Dispose n) free = ap Some (gone_told h visit.day n (disposable h visit.day visit.caller n free).kept) ∙ changed visit (Dispose n) free
  rows_exact visit request free = unchanged (refusing.refusal h visit.day visit.caller request)
