use Rattle.test_plain.proofs.Common.{◌∙◌, ap, Deposit}
use Rattle.bag_check.specs.Validity.{payload_files, payload_bytes}
use Rattle.test_plain.proofs.answering.record_of.Goals as goal

pub returns : goal.returns
returns c =
    let is = c.deposit.view_is in
    λ i. record {
      number = c.args.number;
      description = (c.in_ok-to_owned.ensures ∙ c.lend.ensures ∙ ap (λ (d : Deposit). d.description) is) i;
      deposited = c.args.day;
      files = (c.in_ok-payload.ensures.files ∙ ap (λ (d : Deposit). payload_files d.bag) is) i;
      bytes = (c.in_ok-payload.ensures.bytes ∙ ap (λ (d : Deposit). payload_bytes d.bag) is) i;
      due = c.due.ensures i;
    }
