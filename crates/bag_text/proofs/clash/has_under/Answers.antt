use Rattle.bag_text.proofs.Lemmas.{◌∙◌, sym, refl, ◌++◌, ◌∷◌, [], begins_is, found_is}
use Rattle.bag_text.proofs.clash.has_under.Goals as goal

pub returns-in-Some : goal.returns-in-Some
returns-in-Some c =
    c.is_under.ensures ∙ sym (begins_is c.args.files.now (c.args.outer.now ++ 47 ∷ []) c.count_before_folder.result c.get.result c.requires c.count_before_folder.ensures c.get.ensures.lookup.3 ∙ rw c.in-Some.is (found_is c.in-Some.file.now (c.args.outer.now ++ 47 ∷ [])))

pub returns-in-None : goal.returns-in-None
returns-in-None c =
    sym (begins_is c.args.files.now (c.args.outer.now ++ 47 ∷ []) c.count_before_folder.result c.get.result c.requires c.count_before_folder.ensures c.get.ensures.lookup.3 ∙ rw c.in-None.is refl)
