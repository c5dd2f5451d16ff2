pub mod Common
pub mod FilesAdded
pub mod Rewritten
pub mod RefusedFirst
pub mod StoredAs
pub mod Lemmas
