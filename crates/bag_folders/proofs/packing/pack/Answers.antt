use Rattle.bag_folders.proofs.Lemmas.{some_packed, some_refused}
use Rattle.bag_folders.proofs.packing.pack.Goals as goal

pub returns : goal.returns
returns g c = record {
  listed = c.pack_listed.ensures.packed;
  packed = some_packed _ c.pack_listed.result c.pack_listed.ensures.packed;
  refused = some_refused _ c.pack_listed.result c.pack_listed.ensures.refused;
}
