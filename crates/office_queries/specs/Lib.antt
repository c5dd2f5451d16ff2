pub mod Kinds
pub mod Allowances
pub mod Listing
pub mod Reading
pub mod Records
