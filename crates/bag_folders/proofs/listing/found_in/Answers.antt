use Rattle.bag_folders.proofs.Lemmas.{rules, map-id, file_listed, odd_in, filter_map_next, first_next}
use Rattle.std.proofs.lemmas.Iterator.Consumers.{YieldsList-end}
use Rattle.std.proofs.lemmas.Iterator.Adapters.{YieldsList-from_vec}
use Rattle.bag_folders.proofs.listing.found_in.Goals as goal

pub loop-entry-preserved : goal.loop-entry-preserved
loop-entry-preserved c = record {
  files = filter_map_next file_listed c.loop-entry.yielded c.in-Some.entry _ _ c.loop-entry.invariant.files c.in_ok-take_up.ensures.files;
  odd = first_next odd_in c.loop-entry.yielded c.in-Some.entry _ _ c.loop-entry.invariant.odd c.in_ok-take_up.ensures.odd;
}

pub returns : goal.returns
returns c =
    let end = YieldsList-end (YieldsList-from_vec {s = c.into_iter-entry-iterator.result} c.args.entries.items (search rules) (search rules))
    c.loop-entry.yielded c.loop-entry.entry-iterator c.loop-entry.yielded_by c.next.result c.next.new.self c.in-None.is c.next.ensures.steps in
    rw (← end.0, map-id) (c.loop-entry.invariant.files, c.loop-entry.invariant.odd)
