pub mod Common
pub mod Reopened
pub mod Stopping
