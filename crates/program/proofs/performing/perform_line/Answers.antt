use Rattle.program.proofs.AnswerLemmas.{answers, explained_dated}
use Rattle.program.proofs.performing.perform_line.Goals as goal

pub returns-in-Check-clause-does : goal.returns-in-Check-clause-does
returns-in-Check-clause-does g c =
    rw c.in-Check.is (answers g.O.Write _ c.say.result c.args.streams.now.output c.say.new.output c.answer_check.result c.answer_check.ensures.judged c.answer_check.ensures.stopped c.say.ensures)

pub returns-in-Explain-clause-does : goal.returns-in-Explain-clause-does
returns-in-Explain-clause-does g c =
    rw c.in-Explain.is
    (answers g.O.Write _ c.say-in-Explain.result c.args.streams.now.output c.say-in-Explain.new.output c.answer_explain.result c.answer_explain.ensures.explained c.answer_explain.ensures.stopped
    c.say-in-Explain.ensures)

pub returns-in-Pack-clause-does : goal.returns-in-Pack-clause-does
returns-in-Pack-clause-does g c =
    rw c.in-Pack.is
    (answers g.O.Write _ c.say-in-Pack.result c.args.streams.now.output c.say-in-Pack.new.output c.pack_folder.result c.pack_folder.ensures.said c.pack_folder.ensures.stopped c.say-in-Pack.ensures)

pub returns-in-Unpack-clause-does : goal.returns-in-Unpack-clause-does
returns-in-Unpack-clause-does g c =
    rw c.in-Unpack.is
    (answers g.O.Write _ c.say-in-Unpack.result c.args.streams.now.output c.say-in-Unpack.new.output c.unpack_form.result c.unpack_form.ensures.said c.unpack_form.ensures.stopped c.say-in-Unpack.ensures)

pub returns-in-Replay-clause-does : goal.returns-in-Replay-clause-does
returns-in-Replay-clause-does g c = rw c.in-Replay.is c.work_on-in-Replay.ensures.does

pub returns-in-Policy-clause-does : goal.returns-in-Policy-clause-does
returns-in-Policy-clause-does g c = rw c.in-Policy.is c.work_on.ensures.does

pub returns-in-Ask-clause-does : goal.returns-in-Ask-clause-does
returns-in-Ask-clause-does g c = rw c.in-Ask.is c.work_on-in-Ask.ensures.does

pub returns-in-Serve-clause-does : goal.returns-in-Serve-clause-does
returns-in-Serve-clause-does g c = rw c.in-Serve.is c.work_on-in-Serve.ensures.does

pub returns-in-Explain-clause-answers : goal.returns-in-Explain-clause-answers
returns-in-Explain-clause-answers g c =
    rw c.in-Explain.is
    (explained_dated g.O.Write c.in-Explain.asked c.answer_explain.result c.say-in-Explain.result c.args.streams.now.output c.say-in-Explain.new.output c.answer_explain.ensures.explained
    c.say-in-Explain.ensures)
