use Rattle.std.proofs.Common.{ap, rules}
use Rattle.program.specs.Running.{IsUndated}
use Rattle.program.specs.Streams.{counted_seen}
use Rattle.program.proofs.AnswerLemmas.{used_dated}
use Rattle.program.proofs.running.run_line.Goals as goal

pub returns-clause-used : goal.returns-clause-used
returns-clause-used g c = used_dated c.perform_line-ended.result c.tell_end.result (IsUndated c.args.line.now) c.perform_line-ended.ensures.answers c.tell_end.ensures.used

pub returns-clause-comes : goal.returns-clause-comes
returns-clause-comes g c = record {
  result = c.perform_line-ended.result;
  logged = counted_seen g.E.Write c.perform_line-ended.new.streams.error;
  does = c.perform_line-ended.ensures.does;
  unlogged = λ none. ap (counted_seen g.E.Write) (c.perform_line-ended.ensures.unlogged none);
  told = c.tell_end.ensures.told;
  input = search rules;
  store = search rules;
}
