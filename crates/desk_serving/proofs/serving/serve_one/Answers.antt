use Rattle.desk_serving.proofs.ServingLemmas.{is_answered, on_ok, unnoted_begun, unnoted_served, unnoted_written}
use Rattle.desk_serving.proofs.serving.serve_one.Goals as goal

pub returns-clause-answered : goal.returns-clause-answered
returns-clause-answered g c =
    let noting = c.serve_with_routes-ended in
    on_ok noting.result.0 noting.ensures.answered
    (λ it. (it.0, it.1, it.2, it.3, is_answered g.S.Store c.args.office.now noting.new.office c.args.day it.0 it.1 it.2 noting.result.1 it.4, it.5, it.6))

pub returns-clause-write : goal.returns-clause-write
returns-clause-write g c done e =
    let noting = c.serve_with_routes-ended in
    let it = noting.ensures.write done e in
    (it.0, it.1, it.2, it.3, is_answered g.S.Store c.args.office.now noting.new.office c.args.day it.0 it.1 done noting.result.1 it.4, it.5, it.6, it.7, it.8)

pub returns-clause-memory_done : goal.returns-clause-memory_done
returns-clause-memory_done g c e = let it = c.serve_with_routes-ended.ensures.memory_done e in (it.0, it.1, it.2, it.3.0, it.4)

pub returns-clause-whole : goal.returns-clause-whole
returns-clause-whole g c =
    let noting = c.serve_with_routes-ended in on_ok noting.result.0 noting.ensures.whole (λ it. unnoted_written g.S.Store c.args.office.now noting.new.office c.args.day noting.result.1 _ _ _ it)

pub returns-clause-whole_write : goal.returns-clause-whole_write
returns-clause-whole_write g c done e =
    let noting = c.serve_with_routes-ended in unnoted_begun g.S.Store c.args.office.now noting.new.office c.args.day noting.result.1 _ _ _ done (noting.ensures.whole_write done e)

pub returns-clause-whole_memory_done : goal.returns-clause-whole_memory_done
returns-clause-whole_memory_done g c e =
    let noting = c.serve_with_routes-ended in unnoted_served g.S.Store c.args.office.now noting.new.office c.args.day noting.result.1 _ (noting.ensures.whole_memory_done e)
