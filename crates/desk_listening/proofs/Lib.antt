pub mod Common
pub mod Connections
pub mod Lines
