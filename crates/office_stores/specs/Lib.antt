pub mod Texts
pub mod Stores
