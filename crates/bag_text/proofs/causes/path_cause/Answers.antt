use Rattle.bag_text.proofs.Common.{◌≡◌, ◌∙◌, ap, sym, false, begins_with, decode, path_text}
use Rattle.bag_text.proofs.PathCauseLemmas.{found_where_bad}
use Rattle.bag_text.proofs.causes.path_cause.Goals as goal

pub returns-clause-found : goal.returns-clause-found
returns-clause-found c =
    let star : begins_with 42 (path_text c.args.line.now) ≡ false = ap (begins_with 42) (sym c.spelled_in-spelled.ensures) ∙ sym c.is_starred.ensures ∙ c.if-is_starred.false in
    let path = c.deref.ensures.value ∙ c.in_ok-path.ensures ∙ ap (decode c.args.version) c.spelled_in-spelled.ensures in
    found_where_bad c.args.version (path_text c.args.line.now) c.deref.result.now c.cause_in.result star path c.cause_in.ensures
