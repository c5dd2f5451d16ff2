use Rattle.bag_check.proofs.Lemmas.{◌∙◌, map, ap, drop_more, drop_all, map_push, err_from_is_err_and, listings_of, named_seen, listed_seen, named_fault, listings_fail, listings_take, listings_done}
use Rattle.bag_check.proofs.listed.read_manifests.Goals as goal

pub returns-in_err-listed : goal.returns-in_err-listed
returns-in_err-listed c =
    let p = err_from_is_err_and c.from_residual.result c.from_residual.ensures.1 in
    let is = ap (map named_seen) (drop_more c.args.found.now c.loop-named.named-index _ c.loop-named-test.true) in
    rw (p.1, p.2) (listings_fail c.args.version (map listed_seen c.loop-named.read.items) _ _ _ (named_fault c.in_err-listed.field-0.0) (listings_of c.args.version (map named_seen c.args.found.now)) is c.in_err-listed.ensures c.loop-named.invariant)

pub loop-named-preserved : goal.loop-named-preserved
loop-named-preserved c =
    let is = ap (map named_seen) (drop_more c.args.found.now c.loop-named.named-index _ c.loop-named-test.true) in
    let now = ap (map listed_seen) c.in_ok-push.ensures.items ∙ map_push listed_seen c.loop-named.read.items c.in_ok-listed.listed in
    listings_take c.args.version (map listed_seen c.loop-named.read.items) (map listed_seen c.push.new.self.items) _ _ _ (listed_seen c.in_ok-listed.listed) (listings_of c.args.version (map named_seen c.args.found.now)) is c.in_ok-listed.ensures now c.loop-named.invariant

pub returns : goal.returns
returns c =
    let is = ap (map named_seen) (drop_all c.loop-named.named-index c.args.found.now c.loop-named-test.false) in
    listings_done c.args.version (map listed_seen c.loop-named.read.items) _ (listings_of c.args.version (map named_seen c.args.found.now)) is c.loop-named.invariant
