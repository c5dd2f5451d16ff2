-- The record of a deposit, in the parts in which its row is read.
use Rattle.std.specs.Prelude.{Option, Some, None, if◌then◌else◌}
use Rattle.office_core.specs.Descriptions.{Description}
use Rattle.office_core.specs.FirstOf.{◌>>=◌}
use Rattle.office_core.specs.declared.answer.DepositRecord.{DepositRecord}
use Rattle.office_rows.specs.Rows.{DepositRow}
use Rattle.office_history.specs.Pictures.{description_of}
use Rattle.office_by_rows.specs.Answers.{has_names}
use Rattle.office_queries.specs.declared.records.DepositFigures.{DepositFigures}

abbrev pub record_of : DepositFigures → Description → DepositRecord
record_of f description = record {
  number = f.number;
  description = description;
  deposited = f.deposited;
  files = f.files;
  bytes = f.bytes;
  due = f.due;
}

-- by the row that has these figures, if it has any: none where a name is none
abbrev pub record_if_told : Option DepositFigures → DepositRow → Option DepositRecord
record_if_told figures row = do
  f ← figures
  if has_names row then Some (record_of f (description_of row f.closed)) else None
