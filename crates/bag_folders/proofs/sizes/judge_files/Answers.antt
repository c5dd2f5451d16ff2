use Rattle.bag_folders.proofs.Lemmas.{sym, ◌∙◌, front_len, judged_long, judged_short}
use Rattle.bag_folders.proofs.sizes.judge_files.Goals as goal

pub slice_bounds-judge_paths-end : goal.slice_bounds-judge_paths-end
slice_bounds-judge_paths-end c = front_len c.args.files.now c.in-Some.position (sym c.first_too_long.ensures ∙ c.in-Some.is)

pub returns-in-Some : goal.returns-in-Some
returns-in-Some c = λ files are. rw c.with_long.ensures (judged_long c.in-Some.position c.args.files.now files c.judge_paths.result are (sym c.first_too_long.ensures ∙ c.in-Some.is) c.judge_paths.ensures)

pub returns-in-None : goal.returns-in-None
returns-in-None c = λ files are. judged_short c.args.files.now files c.judge_paths-in-None.result are (sym c.first_too_long.ensures ∙ c.in-None.is) c.judge_paths-in-None.ensures
