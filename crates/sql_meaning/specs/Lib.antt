pub mod Columns
pub mod Whole
pub mod Inside
pub mod Making
pub mod Growing
