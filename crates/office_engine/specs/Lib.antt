pub mod ByRows
pub mod Deciding
pub mod Storing
pub mod OtherBytes
pub mod Upgrading
