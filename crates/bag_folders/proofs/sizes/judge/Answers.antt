use Rattle.bag_folders.proofs.Lemmas.{◌<◌, rules, sum_by, max_form, Listed, is_bag, longer_form, no_form_listed}
use Rattle.bag_folders.proofs.sizes.judge.Goals as goal

pub returns-in-Err-clause-refused : goal.returns-in-Err-clause-refused
returns-in-Err-clause-refused c = λ files are.
    no_form_listed (Unit {0}) c.args.files.now files c.in-Err.fault _ c.named_fault.result are (c.in-Err.ensures files are) c.path_at_fault.ensures c.named_fault.ensures

pub returns-then-is_too_large-clause-refused : goal.returns-then-is_too_large-clause-refused
returns-then-is_too_large-clause-refused c =
    let over : max_form < sum_by (λ (l : Listed). l.size) c.args.files.now = search rules in
    λ files are. (is_bag files (c.in_default.ensures files are), longer_form max_form c.args.files.now files are over)

pub returns-clause-bag : goal.returns-clause-bag
returns-clause-bag c = λ files are. is_bag files (c.in_default.ensures files are)
