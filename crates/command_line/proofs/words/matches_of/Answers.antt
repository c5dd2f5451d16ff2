use Rattle.command_line.proofs.Common.{texts, command_for, rules_for}
use Rattle.command_line.proofs.CommandBuildingLemmas.{fails_by_words, given_by_words, values_by_words, wanted_app}
use Rattle.command_line.proofs.words.matches_of.Goals as goal

pub returns-clause-given : goal.returns-clause-given
returns-clause-given c =
    given_by_words c.args.usage.now.name.now (rules_for c.args.usage.now.arguments.now) c.in_ok-command.command c.try_get_matches_from.result c.in_ok-command.ensures
    c.requires.names c.try_get_matches_from.ensures.parsed

pub returns-clause-values : goal.returns-clause-values
returns-clause-values c =
    values_by_words _ (command_for c.args.usage.now) (texts c.args.words.now) c.try_get_matches_from.result
    (wanted_app _ _ c.in_ok-command.command c.in_ok-command.ensures) c.requires.simple c.try_get_matches_from.ensures.matches

pub returns-clause-faults : goal.returns-clause-faults
returns-clause-faults c =
    fails_by_words _ (command_for c.args.usage.now) (texts c.args.words.now) c.try_get_matches_from.result
    (wanted_app _ _ c.in_ok-command.command c.in_ok-command.ensures) c.requires.simple c.try_get_matches_from.ensures.kinds
