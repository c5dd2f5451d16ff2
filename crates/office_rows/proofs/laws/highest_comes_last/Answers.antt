use Rattle.office_rows.proofs.Order.{put_last}
use Rattle.office_rows.proofs.laws.highest_comes_last.Goals as goal

pub returns : goal.returns
returns c = λ start number row rows low. put_last number row rows low
