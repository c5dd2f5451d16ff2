use Rattle.bag_check.proofs.Lemmas.{◌∙◌, sym, ap, map, option_map, cow_str_bytes, drop_all, first_breach, listed_seen, next_item, place_found, place_later, place_none}
use Rattle.bag_check.proofs.breach.first_breach.Goals as goal

pub returns-in-Some : goal.returns-in-Some
returns-in-Some c =
    let is = ap (map listed_seen) (next_item c.args.listed.now c.loop-one.one-index c.one-item.result c.loop-one-test.true c.one-item.is) in
    let found = sym c.in_ok-path.ensures ∙ ap (option_map cow_str_bytes) c.in-Some.is in
    place_found c.args.bag.now c.args.rule _ _ (listed_seen c.one-item.result) (cow_str_bytes c.in-Some.path) (first_breach c.args.bag.now c.args.rule (map listed_seen c.args.listed.now)) is found c.loop-one.invariant

pub loop-one-preserved : goal.loop-one-preserved
loop-one-preserved c =
    let is = ap (map listed_seen) (next_item c.args.listed.now c.loop-one.one-index c.one-item.result c.loop-one-test.true c.one-item.is) in
    let none = sym c.in_ok-path.ensures ∙ ap (option_map cow_str_bytes) c.in_default.is in
    place_later c.args.bag.now c.args.rule _ _ (listed_seen c.one-item.result) (first_breach c.args.bag.now c.args.rule (map listed_seen c.args.listed.now)) is none c.loop-one.invariant

pub returns : goal.returns
returns c =
    let is = ap (map listed_seen) (drop_all c.loop-one.one-index c.args.listed.now c.loop-one-test.false) in
    place_none c.args.bag.now c.args.rule _ (first_breach c.args.bag.now c.args.rule (map listed_seen c.args.listed.now)) is c.loop-one.invariant
