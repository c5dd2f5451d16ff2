use Rattle.bag_text.proofs.Common.{◌≡◌, length, map, arith, err_from_is_err_and, nat_tests, entry_in}
use Rattle.bag_text.proofs.ManifestLemmas.{all_read, next_line, line_fails}
use Rattle.bag_text.proofs.manifest.read_entries.Goals as goal

pub returns-in_err-add_line : goal.returns-in_err-add_line
returns-in_err-add_line c =
    let p = err_from_is_err_and c.from_residual.result c.from_residual.ensures.1 in
    rw (p.1, p.2) (line_fails c.args.version c.args.algorithm c.loop-rest.number (map entry_in c.loop-rest.entries.entries) c.loop-rest.rest.now c.split_line.result.0.now c.split_line.result.1.now c.in_err-add_line.field-0.0 _ c.split_line.ensures.lines c.in_err-add_line.ensures c.loop-rest.invariant.1)

pub loop-rest-preserved : goal.loop-rest-preserved
loop-rest-preserved c =
    let shorter = c.split_line.ensures.shorter in
    let room = c.loop-rest.invariant.0 in
    (omega arith, next_line c.args.version c.args.algorithm c.loop-rest.number (map entry_in c.loop-rest.entries.entries) (map entry_in c.add_line.new.entries.entries) c.loop-rest.rest.now c.split_line.result.0.now c.split_line.result.1.now _ c.split_line.ensures.lines c.in_ok-add_line.ensures c.loop-rest.invariant.1)

pub returns : goal.returns
returns c =
    let none : length c.loop-rest.rest.now ≡ 0 = grind (arith, nat_tests) in
    all_read c.args.version c.args.algorithm c.loop-rest.number (map entry_in c.loop-rest.entries.entries) c.loop-rest.rest.now _ none c.loop-rest.invariant.1
