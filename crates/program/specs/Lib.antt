pub mod Streams
pub mod Telling
pub mod Answering
pub mod Running
