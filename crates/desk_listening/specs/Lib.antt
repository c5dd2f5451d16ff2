pub mod Accepting
pub mod Listening
pub mod Logging
pub mod Peers
pub mod Sockets
