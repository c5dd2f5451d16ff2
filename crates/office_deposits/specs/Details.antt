-- What is asked with a deposit, as the functions over rows take it.
use Rattle.std.specs.Prelude.{ℕ, List}
use Rattle.std.specs.Borrow.{Bor}
use Rattle.bag_text.specs.TransferForm.{File}
use Rattle.office_core.specs.declared.request.Request.{Request}
use Rattle.office_core.specs.declared.request.Request.TheVariants as requests
use Rattle.office_rows.specs.Rows.{DepositRow}
use Rattle.office_by_rows.specs.Changes.{new_deposit}
use Rattle.office_access.specs.Asking.{Visit, visit_on}
use Rattle.office_deposits.specs.declared.details.DepositDetails.{DepositDetails}

-- who asks, and on which day
abbrev pub visit_of : DepositDetails → Visit
visit_of details = visit_on details.day details.caller.now

-- the request, with the text of the bag
abbrev pub request_of : DepositDetails → Bor (List ℕ) → Request
request_of details bag = requests.Deposit details.description.now bag

-- the row of the deposit, with the number that it gets
abbrev pub row_of : DepositDetails → ℕ → List File → DepositRow
row_of details n bag = new_deposit n details.description.now details.day bag
