use Rattle.bag_check.proofs.Common.{map, sym, contains_has, has_contains, has_map, listed_seen}
use Rattle.bag_check.proofs.digests.digest_of.Goals as goal

pub returns-in-Some : goal.returns-in-Some
returns-in-Some c =
    let one = c.one-item.result in
    let there = has_map listed_seen c.args.listed.now one (contains_has c.args.listed.now one (c.loop-one.one-index, c.loop-one-test.true, sym c.one-item.is)) in
    c.requires (listed_seen one) c.in-Some.digest (has_contains (map listed_seen c.args.listed.now) (listed_seen one) there) c.in-Some.ensures.listed
