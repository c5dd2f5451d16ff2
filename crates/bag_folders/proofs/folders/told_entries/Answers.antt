use Rattle.bag_folders.proofs.Lemmas.{List, [], ◌∷◌, ◌++◌, sym, subst, AllZip, IsToldOf, Entry, zip_next}
use Rattle.std.specs.Iterator.{Yields}
use Rattle.bag_folders.proofs.folders.told_entries.Goals as goal

pub loop-name-preserved : goal.loop-name-preserved
loop-name-preserved g c =
    let added = c.in_ok-add_told.ensures in
    subst (λ (es : List Entry). AllZip (IsToldOf c.args.folder.now) (c.loop-name.yielded ++ c.in-Some.name ∷ []) es) (sym {A = List Entry} added.1)
    (zip_next (IsToldOf c.args.folder.now) c.loop-name.yielded c.loop-name.entries.items c.in-Some.name added.0 c.loop-name.invariant added.2)

pub returns : goal.returns
returns g c =
    let given = subst (λ (it : _). Yields g.I.Iterator.next_gives it c.loop-name.yielded c.loop-name.name-iterator) c.into_iter-name-iterator.ensures.into_iter_gives c.loop-name.yielded_by in
    (c.loop-name.yielded, (c.next.new.self, (c.loop-name.name-iterator, given, c.in-None.ensures.steps)), c.loop-name.invariant)
