use Rattle.bag_folders.proofs.Lemmas.{ℕ, List, subst, IsUnpackedFrom, judged_from, made_from, some_unpacked, some_unreadable, unmade_from}
use Rattle.bag_folders.proofs.unpacking.unpack_from.Goals as goal

pub returns : goal.returns
returns g c =
    let made = made_from _ c.as_slice.result.now c.bag_of.result c.make_bag.result c.bag_of.ensures.bag c.bag_of.ensures.refused c.make_bag.ensures.unread c.make_bag.ensures.made in
    let from = subst (λ (text : List ℕ). IsUnpackedFrom text c.make_bag.result) c.as_slice.ensures.value made in
    record {
      judged = judged_from _ c.in-Ok.text.items c.make_bag.result c.in-Ok.ensures from;
      unpacked = some_unpacked c.in-Ok.text.items c.make_bag.result from;
      refused = some_unreadable c.in-Ok.text.items c.make_bag.result from;
      unmade = unmade_from _ c.bag_of.result c.make_bag.result c.make_bag.ensures.unread c.make_bag.ensures.made;
    }
