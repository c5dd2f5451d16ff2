use Rattle.test_plain.proofs.Common.{◌≡◌, IfOk, subst, sym, allowed_answer}
use Rattle.test_plain.proofs.answering.allowed_answer.Goals as goal

pub returns-in-DownloadFile : goal.returns-in-DownloadFile
returns-in-DownloadFile c =
    subst (λ request. IfOk c.path_answer.result (λ answer. answer ≡ allowed_answer c.args.office.now c.args.day c.args.caller.now request)) (sym c.in-DownloadFile.is) c.path_answer.ensures
