use Rattle.office_rows.proofs.Order.{above_last, above_none}
use Rattle.office_rows.proofs.laws.last_number_is_highest.Goals as goal

pub returns-clause-above : goal.returns-clause-above
returns-clause-above c = λ start number rows last next rise is less. above_last number rows last next rise is less

pub returns-clause-first : goal.returns-clause-first
returns-clause-first c = λ start number rows next none. above_none number rows next none
