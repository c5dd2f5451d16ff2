use Rattle.desk_listening.proofs.Common.{Ok, refl, lost}
use Rattle.desk_listening.proofs.Connections.{untouched}
use Rattle.desk_listening.proofs.listening.serve_peer.Goals as goal

pub returns-in-Ok-get_or_try_insert_with : goal.returns-in-Ok-get_or_try_insert_with
returns-in-Ok-get_or_try_insert_with g c =
    let it = c.serve_ends.ensures in
    (it.0, it.1, it.2, it.3, (Ok c.in-Ok.ends, c.open.new.peer, c.in-Ok.ensures, (c.serve_ends.new.ends, it.4)))

pub returns : goal.returns
returns g c =
    let ends = c.in-Ok.ends in
    (lost, refl, (refl, refl), refl, (Ok ends, c.open.new.peer, c.in-Ok.ensures, (ends, untouched g.P.Peer g.P.Reader.Read g.P.Writer.Write c.args.patience.now (record { peer = c.open.new.peer; ends = ends }))))
