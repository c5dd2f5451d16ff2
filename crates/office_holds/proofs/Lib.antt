pub mod Common
pub mod Denied
pub mod Counted
pub mod Lemmas
