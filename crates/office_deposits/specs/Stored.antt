-- The years that a class's row shows, and how a bag is kept as a deposit that falls due on a day.
use Rattle.std.specs.Prelude.{ℕ, ℤ, pos, List, Option, Some, option_map}
use Rattle.bag_text.specs.TransferForm.{File}
use Rattle.office_core.specs.FirstOf.{◌>>=◌}
use Rattle.office_core.specs.Retention.{due_number}
use Rattle.office_core.specs.declared.retention.Due.{Due}
use Rattle.office_rows.specs.Rows.{ClassRow, DepositRow, Tables, class_named, with_deposit_and_due}
use Rattle.office_by_rows.specs.Changes.{count_in, with_files}

-- the number of years in the row of the class
abbrev pub years_shown : Tables → List ℕ → Option ℤ
years_shown t class = option_map (λ (row : ClassRow). row.years) (class_named class t.classes)

-- the bag is kept as the deposit with that row, which falls due so
abbrev pub stored_with_due : ℕ → DepositRow → Due → List File → Tables → Option Tables
stored_with_due n row due bag t = do
  holds ← count_in t n row.collection row.class
  Some (with_files (pos n) bag (with_deposit_and_due row (due_number due) (pos holds) t))
