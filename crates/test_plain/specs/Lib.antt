pub mod Bags
pub mod Targets
pub mod Changes
pub mod Offices
pub mod Stocks
