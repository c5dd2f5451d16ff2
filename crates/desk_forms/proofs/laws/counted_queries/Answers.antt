use Rattle.desk_forms.proofs.CountedQueries.{listing_by_counts, deposit_by_counts}
use Rattle.desk_forms.proofs.laws.counted_queries.Goals as goal

pub returns-clause-listing : goal.returns-clause-listing
returns-clause-listing c = listing_by_counts

pub returns-clause-deposit : goal.returns-clause-deposit
returns-clause-deposit c = deposit_by_counts
