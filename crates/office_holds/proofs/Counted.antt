-- The number of the next hold, and the counts of live holds, by the rows that were read.
use Rattle.office_holds.proofs.Common.{◌≡◌, ℕ, ℤ, pos, ◌+ℤ◌, ◌&&◌, Bool, true, false, List, Option, Some, None, Result, Ok, Err, IfOk, refl, sym, subst, ◌∙◌, if◌then◌else◌, epoch_day, ◌>>=◌, Refusal, DueRow, Limits, Tables, due_numbered, limits_of, with_holds, TableFault, Store, counted_on, new_hold, full_after, full_of_holds, highest_hold, held_target}
use Rattle.jiff.specs.Types.{Date}
use Rattle.office_tables.specs.ShownHolds.{placed_row}
use Rattle.office_tables.specs.declared.holds.HoldTarget.{HoldTarget}
use Rattle.office_tables.specs.declared.holds.HoldTarget.TheVariants as targets
use Rattle.office_by_rows.specs.Values.{is_between}

-- whether the office is full, by the limits and the highest number that were read
pub full_told : (t : Tables) (limits : Limits) → limits_of t ≡ Some limits → (highest : Option ℤ) → highest ≡ highest_hold t → (full : Option Refusal) → full_after limits.max_holds highest ≡ Some full → full_of_holds t ≡ Some full
full_told t limits are highest is full told = (λ i. are i >>= λ (limits : Limits). full_after limits.max_holds (sym is i)) ∙ told

-- the row that is put is that of the new hold
pub put_row : (k : ℕ) (day : Date) (target : HoldTarget) (matter : List ℕ) → placed_row target (pos k) matter (epoch_day day) ≡ new_hold k (held_target target) matter day
put_row k day (targets.Deposit n) matter = refl
put_row k day _ matter = refl

-- what is counted over a deposit, by the limits and the row that were read
module _ (t : Tables) (n : ℕ) (by : ℤ) (limits : Limits) (are : limits_of t ≡ Some limits) (row : DueRow) (there : due_numbered (pos n) t.dues ≡ Some row) where
  abbrev is_in_range : Bool
  is_in_range = is_between (pos 0) limits.max_holds row.holds && is_between (pos 0) limits.max_holds (row.holds +ℤ by)

  counted : counted_on n by t ≡ (if is_in_range then Some (with_holds (pos n) (row.holds +ℤ by) t) else None)
  counted = λ i. are i >>= λ (limits : Limits). there i >>= λ (kept : DueRow). if is_between (pos 0) limits.max_holds kept.holds && is_between (pos 0) limits.max_holds (kept.holds +ℤ by) then Some (with_holds (pos n) (kept.holds +ℤ by) t) else None

  pub counted_told : (result : Result ℤ TableFault) → result ≡ (if is_in_range then Ok (row.holds +ℤ by) else Err Store) → IfOk result (λ count. counted_on n by t ≡ Some (with_holds (pos n) count t))
  counted_told result is = subst (λ r. IfOk r (λ count. counted_on n by t ≡ Some (with_holds (pos n) count t))) (sym is) (told is_in_range counted)
    where
      told : (b : Bool) → counted_on n by t ≡ (if b then Some (with_holds (pos n) (row.holds +ℤ by) t) else None) → IfOk (if b then Ok (row.holds +ℤ by) else Err Store) (λ count. counted_on n by t ≡ Some (with_holds (pos n) count t))
      told true e = e
      told false e = tt
