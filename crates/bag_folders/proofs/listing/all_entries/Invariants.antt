use Rattle.bag_folders.proofs.ListingLemmas.{AreListedSoFar}
use Rattle.bag_folders.proofs.listing.all_entries.Given as goal

abbrev pub invariant-loop-next : goal.invariant-loop-next
invariant-loop-next g l = AreListedSoFar (g.F.Folders.lists l.folders) l.entries.items l.next
