use Rattle.desk_serving.proofs.Common.{arith, refl}
use Rattle.desk_serving.proofs.serving.answer_heard.Goals as goal

pub returns : goal.returns
returns g c = (
  c.step-answer.result,
  record {
    item = (c.args.day, c.caller.result, c.request-request.result);
    asks = record { on_day = refl; caller = c.caller.ensures; asked = c.request-request.ensures };
    clean = λ clean. omega (arith, clean, c.step-answer.ensures.survives.clean);
    survives = c.step-answer.ensures.survives;
    turn = λ honest. record {
      served = c.step-answer.ensures.served honest;
      kept = c.step-answer.ensures.kept honest;
      rows = c.step-answer.ensures.rows honest;
      shut = c.step-answer.ensures.shut honest;
      survives = c.step-answer.ensures.survives;
      survives_rows = c.step-answer.ensures.survives_rows;
      durable = c.step-answer.ensures.durable honest;
      leaves = c.step-answer.ensures.leaves honest;
      made = c.step-answer.ensures.made honest;
      takes_rows_step = c.step-answer.ensures.takes_rows_step honest;
      leaves_rows = c.step-answer.ensures.leaves_rows honest;
      durable_rows = c.step-answer.ensures.durable_rows honest;
    };
  },
  c.bytes_and_note-told.ensures.bytes,
  c.bytes_and_note-told.ensures.note,
)
