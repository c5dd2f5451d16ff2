pub mod Common
pub mod Ending
pub mod Again
pub mod Stored
