pub mod Common
pub mod FileLemmas
