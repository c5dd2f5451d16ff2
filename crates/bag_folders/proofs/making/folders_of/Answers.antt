use Rattle.bag_folders.proofs.Lemmas.{ℕ, true, false, List, Bor, append-nil, ap, map, sym, ◌∙◌, map_push, all_folders}
use Rattle.bag_folders.proofs.making.folders_of.Goals as goal

pub returns-then-needs_data : goal.returns-then-needs_data
returns-then-needs_data c =
    all_folders c.args.files.now _ _ true (sym c.if-needs_data.true ∙ c.needs_data.ensures) c.in_ok-folders.ensures
    (ap (λ (fs : List (Bor (List ℕ))). map (λ (folder : Bor (List ℕ)). folder.now) fs) c.in_ok-push.ensures.items ∙ map_push (λ (folder : Bor (List ℕ)). folder.now) c.in_ok-folders.folders.items _)

pub returns : goal.returns
returns c = all_folders c.args.files.now _ _ false (sym c.if-needs_data.false ∙ c.needs_data.ensures) c.in_ok-folders.ensures (sym (append-nil _))
