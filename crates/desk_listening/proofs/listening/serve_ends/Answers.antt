use Rattle.desk_listening.proofs.Common.{Ok, Err, refl, device_of, Drops}
use Rattle.desk_listening.proofs.Connections.{left_alone, left_so, left_whole, on_ok_is, reports, told}
use Rattle.desk_listening.proofs.listening.serve_ends.Goals as goal

pub returns-in-Ok : goal.returns-in-Ok
returns-in-Ok g c =
    let ends = c.args.ends.now in
    let noting = c.serve_with_routes-ended in
    let one = noting.new in
    let at = noting.ensures in
    let it = told g.S.Store c.args.day g.P.Writer.Write.contents c.args.office.now one.office (g.P.Reader.Read.remaining (device_of ends.reader)) (g.P.Reader.Read.remaining (device_of one.reader))
    ends.writer one.writer noting.result.1 _ _ noting.result.0 at.answered at.read at.write at.memory_done at.memory at.whole at.whole_write at.whole_memory_done in
    let tells = reports noting.result.0 (Ok c.in-Ok.field-0) it.connection c.in-Ok.is it.tells in
    let answered = on_ok_is noting.result.0 c.in-Ok.field-0 c.in-Ok.is at.answered in
    let left = c.hang_up-left.ensures in
    let after = c.hang_up-left.new in (
      it.connection,
      it.after,
      tells,
      it.notes,
      record {
        heard = it.heard;
        written = it.written;
        left = left_whole g.P.Peer g.P.Reader.Read g.P.Writer.Write c.args.patience.now (record { peer = c.args.peer.now; ends = ends })
            (record { peer = after.peer; ends = record ends { reader = after.reader; writer = one.writer } }) _ tells (record {
              heard = one.reader;
              given = answered.0;
              came = answered.3;
              left = left_so (Drops g.P.Reader.Read c.args.patience.now.rest_bytes one.reader after.reader) c.hang_up-left.result left.shut left.dropped left.failed left.same;
            });
      },
    )

pub returns-in-Err : goal.returns-in-Err
returns-in-Err g c =
    let ends = c.args.ends.now in
    let noting = c.serve_with_routes-ended in
    let one = noting.new in
    let at = noting.ensures in
    let it = told g.S.Store c.args.day g.P.Writer.Write.contents c.args.office.now one.office (g.P.Reader.Read.remaining (device_of ends.reader)) (g.P.Reader.Read.remaining (device_of one.reader))
    ends.writer one.writer noting.result.1 _ _ noting.result.0 at.answered at.read at.write at.memory_done at.memory at.whole at.whole_write at.whole_memory_done in
    let tells = reports noting.result.0 (Err c.in-Err.fault) it.connection c.in-Err.is it.tells in (
      it.connection,
      it.after,
      tells,
      it.notes,
      record {
        heard = it.heard;
        written = it.written;
        left = left_alone g.P.Peer g.P.Reader.Read g.P.Writer.Write c.args.patience.now (record { peer = c.args.peer.now; ends = ends })
            (record { peer = c.args.peer.now; ends = record ends { reader = one.reader; writer = one.writer } }) _ tells.0 refl;
      },
    )
