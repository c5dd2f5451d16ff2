use Rattle.fault_words.proofs.CauseLemmas.{cause_is_known, cause_is_told}
use Rattle.fault_words.proofs.laws.causes_are_told.Goals as goal

pub returns-clause-known : goal.returns-clause-known
returns-clause-known c = cause_is_known

pub returns-clause-told : goal.returns-clause-told
returns-clause-told c = cause_is_told
