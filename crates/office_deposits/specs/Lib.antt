pub mod Details
pub mod Stored
