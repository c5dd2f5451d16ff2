use Rattle.matchit.proofs.OnLiterals.{matchit_on_literals}
use Rattle.desk_routes.proofs.routes.insert_holds_and_due.Goals as goal

pub returns : goal.returns
unfolding matchit_on_literals
returns c = rw (c.in_ok-insert-3.ensures.1, c.in_ok-insert-2.ensures.1, c.in_ok-insert.ensures.1, c.requires)
