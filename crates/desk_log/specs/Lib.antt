pub mod Notes
pub mod Lines
pub mod Logging
pub mod Watching
