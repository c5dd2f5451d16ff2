use Rattle.bag_folders.proofs.Common.{arith, rules}
use Rattle.bag_folders.proofs.ListingLemmas.{listed_first, listed_next}
use Rattle.bag_folders.proofs.listing.all_entries.Goals as goal

pub loop-next-init : goal.loop-next-init
loop-next-init g c = listed_first (g.F.Folders.lists c.args.folders.now) c.in_ok-entries.entries.items c.in_ok-entries.ensures.listed

pub loop-next-preserved : goal.loop-next-preserved
loop-next-preserved g c =
    listed_next (g.F.Folders.lists c.args.folders.now) c.loop-next.entries.items c.in_ok-more.more.items c.append.new.self.items c.loop-next.next c.index.result.now
    (omega (arith, c.if-next-len.false, c.len.ensures)) (search rules) c.loop-next.invariant c.in_ok-more.ensures.listed c.in_ok-append.ensures.items
