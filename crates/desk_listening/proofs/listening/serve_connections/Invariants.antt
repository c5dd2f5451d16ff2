use Rattle.desk_listening.proofs.Common.{◌≡◌, ◌≤◌, List, length, count_by, IsLogged, log_of, IsCounted, TakesAll, Connection, IsAfterAll, is_answered, lines_of, watch_of, Treats}
use Rattle.desk_listening.proofs.listening.serve_connections.Given as goal

abbrev pub invariant-loop-taken : goal.invariant-loop-taken
invariant-loop-taken g l = record {
  came : (connections : List Connection) × (length connections ≡ l.taken) × (count_by is_answered connections ≡ l.answered)
      × IsAfterAll g.S.Store l.day connections l.fn.office l.office
      × TakesAll g.L.Listener (Treats (record { peer = g.P.Peer; reads = g.P.Reader.Read; writes = g.P.Writer.Write }) l.patience) connections l.fn.listener l.listener
      × (l.watch ≡ watch_of connections)
      × IsLogged (lines_of connections) (log_of g.E.Write l.fn.log) (log_of g.E.Write l.log);
  few : l.answered ≤ l.taken;
  counted : IsCounted l.watch;
  number : l.watch.connections ≡ l.taken;
}
