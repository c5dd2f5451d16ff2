use Rattle.office_engine.proofs.Common.{ap, Rows, AllRows, Newest, all_rows_of}
use Rattle.office_upgrade.specs.Upgrading as rows
use Rattle.office_engine.proofs.laws.rows_left_are_taken_up.Goals as goal

-- the rows of a request, of which an upgrade speaks
abbrev rows_in : AllRows → Rows
rows_in all = record { tables = all.tables; contents = record { rows = all.contents; references = all.references } }

pub returns : goal.returns
returns g c again done r told left taken is_open =
    let there : rows.IsLeftAt Newest (all_rows_of r) _ = (left.0, record { office = left.1.office; are = ap all_rows_of left.1.are }, left.2) in
    let kept = taken Newest (all_rows_of r) told there is_open in
    (record { office = kept.0.office; are = ap rows_in kept.0.are }, kept.1)
