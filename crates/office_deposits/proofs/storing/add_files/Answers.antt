use Rattle.office_deposits.proofs.Lemmas.{pos, [], refl, in_turn, none_called, turn_as, turn_then, all_added, digest_at, next_file}
use Rattle.office_deposits.proofs.storing.add_files.Goals as goal

pub add_file-requires : goal.add_file-requires
add_file-requires g c = digest_at c.args.files.now c.args.digests.now c.requires c.loop-index.index _ [] c.loop-index-test.true

pub loop-index-preserved : goal.loop-index-preserved
loop-index-preserved g c =
    let so_far = c.loop-index.invariant in
    let add = c.in_ok-add_file.ensures in
    record {
      inside = turn_as (turn_then so_far.inside (in_turn add.inside)) _ tt;
      adds = next_file so_far.inside add.inside (pos c.args.number) c.args.files.now c.loop-index.index so_far.adds _ c.loop-index-test.true add.changes;
    }

pub loop-index-init : goal.loop-index-init
loop-index-init g c = record {
  inside = none_called _ tt;
  adds = λ clean office. record { office = office; rows = refl; contents = refl; once = λ was. was };
}

pub returns-clause-changes : goal.returns-clause-changes
returns-clause-changes g c =
    all_added g.S.Store c.args.tx.now.conn.now c.loop-index.tx.conn.now (pos c.args.number) c.args.files.now c.loop-index.index c.loop-index-test.false c.loop-index.invariant.adds
