use Rattle.office_engine.proofs.Lemmas.{ap, contents_held}
use Rattle.office_engine.proofs.laws.stored_columns_are_told.Goals as goal

pub returns : goal.returns
returns c = record {
  contents = λ db h pictured. contents_held h db pictured (c.contents_are_those_of_files.ensures db pictured.office pictured.once);
  marked = λ db h pictured. (c.contents_are_those_of_files.ensures db pictured.office pictured.once).marked;
  dues = λ db h pictured. ap (λ t. t.dues) pictured.are;
}
