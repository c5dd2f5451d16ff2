use Rattle.desk_serving.proofs.Common.{rules, ◌≡◌, refl}
use Rattle.desk_serving.proofs.ServingLemmas.{whole_begun, whole_written}
use Rattle.desk_serving.proofs.serving.serve_with_routes.Goals as goal

pub returns-in-Ok-write_whole-clause-whole : goal.returns-in-Ok-write_whole-clause-whole
returns-in-Ok-write_whole-clause-whole g c =
    let noting = c.respond_noting-answered in
    let response = c.in-Ok.field-0 in
    let same : c.deref.result.now ≡ response.bytes.items = search rules in
    let at = rw c.in-Ok.is at noting.ensures.whole in
    whole_written g.S.Store c.args.office.now noting.new.office c.args.day noting.result.1 _ _ _ response.done response.bytes.items _ at same c.in-Ok-write_whole.ensures.ok

pub returns-in-Ok-clause-calm_writer : goal.returns-in-Ok-clause-calm_writer
returns-in-Ok-clause-calm_writer g c unwritten = absurd (unwritten c.in-Ok.field-0.done refl)

pub returns-in-Ok-clause-whole_write : goal.returns-in-Ok-clause-whole_write
returns-in-Ok-clause-whole_write g c done is =
    let noting = c.respond_noting-answered in
    let response = c.in-Ok.field-0 in
    let same : c.deref.result.now ≡ response.bytes.items = search rules in
    let told : response.done ≡ done = cc in
    let at = rw c.in-Ok.is at noting.ensures.whole in
    whole_begun g.S.Store c.args.office.now noting.new.office c.args.day noting.result.1 _ _ _ response.done done response.bytes.items _ at same c.in-Err.ensures.beginning told
