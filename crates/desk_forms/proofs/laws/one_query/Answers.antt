use Rattle.desk_forms.proofs.SayingLemmas.{one_listing, one_deposit_query}
use Rattle.desk_forms.proofs.laws.one_query.Goals as goal

pub returns-clause-listing : goal.returns-clause-listing
returns-clause-listing c = one_listing

pub returns-clause-deposit : goal.returns-clause-deposit
returns-clause-deposit c = one_deposit_query
