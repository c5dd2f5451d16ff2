-- The rows of deposits and what is kept beside them, and the history that they picture.
use Rattle.office_refines.proofs.Common.{◌≡◌, ℕ, pos, option_map, refl, ap, ◌∙◌, ◌+◌, List, [], ◌∷◌, Some, ap₂, arith, bytes_eq, Date, DepositRow, DueRow, due_numbered, deposit_by, has_accession, beside, History, Deposit, deposits, accession_of, deposit_row, deposit_rows, due_row, due_rows, each}
use Rattle.office_rows.specs.Rows.{deposit_numbered}
use Rattle.office_history.specs.Histories as histories
use Rattle.office_refines.proofs.NumberedRows.{rows_from, rows_are, found_at, first_told}

pub deposit_rows_are : (h : History) → deposit_rows h ≡ rows_from (deposit_row h) 1 (deposits h)
deposit_rows_are h = rows_are (deposit_row h) (deposits h)

pub deposit_told : (h : History) (n : ℕ) → deposit_numbered (pos n) (deposit_rows h) ≡ option_map (deposit_row h n) (histories.deposit_numbered h n)
deposit_told h n = ap (deposit_numbered (pos n)) (deposit_rows_are h) ∙ found_at (deposit_row h) (λ d. d.number) (λ m x. refl) (deposits h) n

pub due_rows_are : (h : History) → due_rows h ≡ rows_from (due_row h) 1 (deposits h)
due_rows_are h = rows_are (due_row h) (deposits h)

pub due_told : (h : History) (n : ℕ) → due_numbered (pos n) (due_rows h) ≡ option_map (due_row h n) (histories.deposit_numbered h n)
due_told h n = ap (due_numbered (pos n)) (due_rows_are h) ∙ found_at (due_row h) (λ d. d.number) (λ m x. refl) (deposits h) n

-- the number of the first deposit that has the accession
pub accession_told : (h : History) (accession : List ℕ) → option_map (λ (d : DepositRow). d.number) (deposit_by accession (deposit_rows h)) ≡ option_map pos (accession_of h accession)
accession_told h accession =
    ap (λ ds. option_map (λ (d : DepositRow). d.number) (deposit_by accession ds)) (deposit_rows_are h)
    ∙ first_told (deposit_row h) (has_accession accession) (λ d. bytes_eq d.1.description.accession accession) (λ row place. option_map (λ (d : DepositRow). d.number) row ≡ option_map pos (option_map (λ p. p + 1) place)) (deposits h)
    (each (λ (d : Date × Deposit). (m : ℕ) → has_accession accession (deposit_row h m d) ≡ bytes_eq d.1.description.accession accession) (λ d m. refl) (deposits h))
    refl (λ i d there. let one : 1 + i ≡ i + 1 = omega arith in ap (λ k. Some (pos k)) one)

module _ (h : History) where
  -- the row of a deposit, and what is kept beside it
  abbrev pub both : ℕ → Date × Deposit → DepositRow × DueRow
  both n found = (deposit_row h n found, due_row h n found)

  beside_from : (xs : List (Date × Deposit)) (start : ℕ) → beside (rows_from (deposit_row h) start xs) (rows_from (due_row h) start xs) ≡ rows_from both start xs
  beside_from [] start = refl
  beside_from (x ∷ xs) start = ap (λ rows. both start x ∷ rows) (beside_from xs (start + 1))

  pub rows_beside : beside (deposit_rows h) (due_rows h) ≡ rows_from both 1 (deposits h)
  rows_beside = ap₂ beside (deposit_rows_are h) (due_rows_are h) ∙ beside_from (deposits h) 1
