pub mod Packing
pub mod Unpacking
pub mod Saying
pub mod Sizes
pub mod Loading
pub mod Listing
