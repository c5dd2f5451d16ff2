pub mod Resources
pub mod PathReading
pub mod Rows
pub mod Table
pub mod Targets
