pub mod Texts
pub mod Traffic
pub mod Deeds
pub mod Tasks
pub mod Stores
pub mod Policies
pub mod Works
