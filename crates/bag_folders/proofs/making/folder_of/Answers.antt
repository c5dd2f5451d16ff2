use Rattle.bag_folders.proofs.Lemmas.{rules, folder_found}
use Rattle.bag_folders.proofs.making.folder_of.Goals as goal

pub returns-in-Some : goal.returns-in-Some
returns-in-Some c =
    let found = folder_found c.args.path.now _ c.rsplit_once.ensures.cases in
    rw (← found) (grind rules)

pub returns-in-None : goal.returns-in-None
returns-in-None c =
    let found = folder_found c.args.path.now _ c.rsplit_once.ensures.cases in
    rw (← found) (grind rules)
