use Rattle.bag_text.proofs.Lemmas.{◌≡◌, List, length, ap, arith, err_from_is_err_and, nat_tests, lines, CodePair, pairs_from, pairs_of, sound_lines, first_sound, none_marked, all_read, next_line, line_fails}
use Rattle.bag_text.proofs.info.read_pairs.Goals as goal

pub loop-rest-init : goal.loop-rest-init
loop-rest-init c = record {
  room = omega arith;
  so_far = ap (λ (x : List CodePair). pairs_from 1 (pairs_of x) (lines c.args.text.now)) c.new-pairs.ensures.items;
  sound = sound_lines c.args.text.now c.requires;
  marked = none_marked c.new-pairs.result.items c.new-pairs.ensures.items;
}

pub returns-in_err-add_line-clause-value : goal.returns-in_err-add_line-clause-value
returns-in_err-add_line-clause-value c =
    let p = err_from_is_err_and c.from_residual.result c.from_residual.ensures.1 in
    rw (p.1, p.2) (line_fails c.loop-rest.number (pairs_of c.loop-rest.pairs.items) c.loop-rest.rest.now c.split_line.result.0.now c.split_line.result.1.now c.in_err-add_line.field-0.0 _ c.split_line.ensures.lines c.in_err-add_line.ensures.value c.loop-rest.invariant.so_far)

pub loop-rest-preserved : goal.loop-rest-preserved
loop-rest-preserved c =
    let shorter = c.split_line.ensures.shorter in
    let room = c.loop-rest.invariant.room in
    let sound = first_sound c.loop-rest.rest.now c.split_line.result.0.now c.split_line.result.1.now c.split_line.ensures.lines c.loop-rest.invariant.sound in
    record {
      room = omega arith;
      so_far = next_line c.loop-rest.number (pairs_of c.loop-rest.pairs.items) (pairs_of c.add_line.new.pairs.items) c.loop-rest.rest.now c.split_line.result.0.now c.split_line.result.1.now _ c.split_line.ensures.lines c.in_ok-add_line.ensures.value c.loop-rest.invariant.so_far;
      sound = sound.1;
      marked = c.in_ok-add_line.ensures.marked sound.0.1 c.loop-rest.invariant.marked;
    }

pub returns-clause-value : goal.returns-clause-value
returns-clause-value c =
    let none : length c.loop-rest.rest.now ≡ 0 = grind (arith, nat_tests) in
    all_read c.loop-rest.number (pairs_of c.loop-rest.pairs.items) c.loop-rest.rest.now _ none c.loop-rest.invariant.so_far
