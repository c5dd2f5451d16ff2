use Rattle.office_stores.proofs.FileLemmas.{made_is_office, taken_is_office}
use Rattle.office_stores.proofs.stores.office_of.Goals as goal

pub returns-then-is_new-clause-is : goal.returns-then-is_new-clause-is
returns-then-is_new-clause-is g c =
    let made = c.make_office in made_is_office g.S.Store c.args.conn c.args.is_new made.result c.if-is_new.true made.ensures.clean made.ensures.made made.ensures.not_empty

pub returns-else-is_new-clause-is : goal.returns-else-is_new-clause-is
returns-else-is_new-clause-is g c =
    let taken = c.take_office in taken_is_office g.S.Store c.args.conn c.args.is_new taken.result c.if-is_new.false taken.ensures.clean taken.ensures.goes_on taken.ensures.was_there
