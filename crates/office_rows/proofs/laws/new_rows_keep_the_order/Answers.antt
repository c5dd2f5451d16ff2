use Rattle.office_rows.proofs.Order.{put_rises, put_permutes}
use Rattle.office_rows.proofs.laws.new_rows_keep_the_order.Goals as goal

pub returns-clause-rises : goal.returns-clause-rises
returns-clause-rises c = λ start number row rows rise new. put_rises number row rows rise new

pub returns-clause-each : goal.returns-clause-each
returns-clause-each c = λ start number row rows. put_permutes number row rows
