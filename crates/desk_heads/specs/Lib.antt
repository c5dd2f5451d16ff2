pub mod Bounds
pub mod Ends
pub mod Fields
pub mod HeadReading
pub mod Heads
pub mod Steps
pub mod View
