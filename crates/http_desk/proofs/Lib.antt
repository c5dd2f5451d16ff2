pub mod Common
pub mod LengthLemmas
pub mod LineLemmas
pub mod FoundLemmas
pub mod ListLemmas
pub mod ReplayLemmas
pub mod RunLemmas
pub mod Lemmas
