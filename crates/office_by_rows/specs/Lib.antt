pub mod Values
pub mod Asking
pub mod Refusals
pub mod Answers
pub mod Changes
pub mod Serving
pub mod Stock
pub mod Kinds
