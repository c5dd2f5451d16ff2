pub mod Printing
pub mod Explaining
pub mod PolicyFiles
pub mod Checking
pub mod Failing
