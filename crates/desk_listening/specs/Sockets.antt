-- The sockets of the system, as a listener of the desk. `std` has the socket.
use Rattle.std.specs.declared.net.tcp.TcpListener.{TcpListener}
use Rattle.desk_listening.specs.declared.sockets.Sockets.{Sockets}

-- the socket whose connections are accepted
abbrev pub socket_of : Sockets → TcpListener
socket_of sockets = sockets.listener.now
