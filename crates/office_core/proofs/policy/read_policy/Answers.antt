use Rattle.office_core.proofs.PolicyAnswers.{read_is_spelled, refused_is_first, spelled_is_read, first_is_refused}
use Rattle.office_core.proofs.policy.read_policy.Goals as goal

pub returns : goal.returns
returns c =
    let text = c.args.text.now in
    let read = c.read_text.result in
    let is = c.read_text.ensures in
    record {
      spells = read_is_spelled text read is;
      reads = spelled_is_read text read is;
      refused = refused_is_first text read is;
      first_fault = first_is_refused text read is;
      exact = is;
    }
