use Rattle.bag_text.proofs.Lemmas.{[], ◌∙◌, ap, option_map, err_from_is_err_and, map_push, files_of, file_of, files_at, max_files, goes_on, ends, is_done}
use Rattle.bag_text.proofs.transfer.read_files.Goals as goal

pub returns-in_err-file : goal.returns-in_err-file
returns-in_err-file c =
    let p = err_from_is_err_and c.from_residual.result c.from_residual.ensures.1 in
    rw (p.1, p.2) (ends (files_of c.loop-files.files.items) c.args.whole c.saturating_sub.result c.loop-files.left c.loop-files.before.now c.loop-files.rest.now c.in_err-file.field-0.0 (files_at c.args.whole max_files [] c.args.body.now) c.saturating_sub.ensures c.in_err-file.ensures.value c.loop-files.invariant)

pub loop-files-preserved : goal.loop-files-preserved
loop-files-preserved c =
    let now = ap files_of c.in_ok-push.ensures.items ∙ map_push file_of c.loop-files.files.items c.in-Some.file in
    rw c.as_bytes-before.ensures.value (goes_on (files_of c.loop-files.files.items) (files_of c.push.new.self.items) c.args.whole c.saturating_sub.result c.loop-files.left c.loop-files.before.now c.loop-files.rest.now _ (file_of c.in-Some.file, c.in-Some.behind.now) (files_at c.args.whole max_files [] c.args.body.now) (rw c.in-Some.is at c.in_ok-file.ensures.room) c.saturating_sub.ensures now c.in_ok-file.ensures.value (ap (option_map (λ x. (file_of x.0, x.1.now))) c.in-Some.is) c.loop-files.invariant)

pub returns : goal.returns
returns c = is_done (files_of c.loop-files.files.items) c.args.whole c.saturating_sub.result c.loop-files.left c.loop-files.before.now c.loop-files.rest.now _ (files_at c.args.whole max_files [] c.args.body.now) c.saturating_sub.ensures c.in_ok-file.ensures.value (ap (option_map (λ x. (file_of x.0, x.1.now))) c.in_default.is) c.loop-files.invariant
