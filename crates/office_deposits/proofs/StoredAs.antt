-- How a bag is kept as a deposit, by what is read first.
use Rattle.office_deposits.proofs.Common.{◌≡◌, ℕ, ℤ, pos, List, Option, Some, None, Ok, option_map, sym, ap, ◌∙◌, Bor, same_Some, ◌>>=◌, due_number, ClassRow, DepositRow, Tables, class_named, with_deposit_and_due, bag_of, years_of_number, allowed_rows, count_in, due_in, if_bag, new_deposit, with_files, highest_deposit, number_after, request_of, row_of, visit_of, stored_with_due, years_shown, DepositDetails}
use Rattle.jiff.specs.Types.{Date}
use Rattle.bag_text.specs.TransferForm.{File}
use Rattle.office_core.specs.RetentionReading.{due_of}
use Rattle.office_core.specs.declared.retention.Due.{Due}

-- the due day is that by the years of the class
pub due_read : (t : Tables) (class : List ℕ) (closed : Date) (number : ℤ) (years : Option ℕ) → years_shown t class ≡ Some number → years_of_number number ≡ Some years → due_in t class closed ≡ Some (due_of closed years)
due_read t class closed number years shown told = by (class_named class t.classes) shown
  where
    by : (o : Option ClassRow) → option_map (λ (c : ClassRow). c.years) o ≡ Some number → (o >>= λ (row : ClassRow). years_of_number row.years >>= λ years. Some (due_of closed years)) ≡ Some (due_of closed years)
    by None e = absurd cc
    by (Some row) e = ap (λ n. years_of_number n >>= λ years. Some (due_of closed years)) (same_Some _ _ e) ∙ ap (λ o. o >>= λ years. Some (due_of closed years)) told

-- the count is that which is kept beside the row
pub kept_beside : (n : ℕ) (row : DepositRow) (due : Due) (bag : List File) (t : Tables) (holds : ℤ) → Some holds ≡ option_map pos (count_in t n row.collection row.class)
    → stored_with_due n row due bag t ≡ Some (with_files (pos n) bag (with_deposit_and_due row (due_number due) holds t))
kept_beside n row due bag t holds is_count = by (count_in t n row.collection row.class) is_count
  where
    by : (count : Option ℕ) → Some holds ≡ option_map pos count
        → ◌≡◌ {A = Option Tables} (count >>= λ holds. Some (with_files (pos n) bag (with_deposit_and_due row (due_number due) (pos holds) t))) (Some (with_files (pos n) bag (with_deposit_and_due row (due_number due) holds t)))
    by None e = absurd cc
    by (Some count) e = λ i. Some (with_files (pos n) bag (with_deposit_and_due row (due_number due) (same_Some _ _ (sym e) i) t))

-- a deposit that is allowed is kept under the next number, with the bag of its text, and falls due by its class
pub next_kept : (asked : DepositDetails) (text : Bor (List ℕ)) (n : ℕ) (due : Due) (bag : List File) (t : Tables) → number_after (highest_deposit t) ≡ Some n → due_in t asked.description.now.class asked.description.now.closed ≡ Some due → bag_of text.now ≡ Ok bag
    → stored_with_due n (row_of asked n bag) due bag t ≡ allowed_rows t (visit_of asked) (request_of asked text)
next_kept asked text n due bag t number is_due is_bag =
    λ i. sym number i >>= λ n. if_bag (sym is_bag i) (λ files. sym is_due i >>= λ due. stored_with_due n (new_deposit n asked.description.now asked.day files) due files t)
