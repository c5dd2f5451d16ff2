use Rattle.office_engine.proofs.Common.{sym, subst, this_version}
use Rattle.office_history.specs.RowRanges.{AreInRange}
use Rattle.office_engine.proofs.laws.tables_are_in_range.Goals as goal

pub returns : goal.returns
returns c = λ db h legal pictured.
    subst (AreInRange this_version) (sym pictured.are) (c.pictures_are_in_range.ensures h this_version legal)
