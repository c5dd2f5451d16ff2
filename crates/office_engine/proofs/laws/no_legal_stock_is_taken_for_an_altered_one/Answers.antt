use Rattle.office_engine.proofs.Lemmas.{stock_told}
use Rattle.office_engine.proofs.laws.no_legal_stock_is_taken_for_an_altered_one.Goals as goal

pub returns : goal.returns
returns c db h pictured = stock_told h db pictured (c.contents_are_those_of_files.ensures db pictured.office pictured.once)
