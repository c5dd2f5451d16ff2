pub mod Bodies
pub mod BodyReading
pub mod Paths
pub mod Queries
pub mod QueryReading
