pub mod Common
pub mod WalkLemmas
pub mod RoomLemmas
pub mod RunLemmas
pub mod DistinctLemmas
pub mod Lemmas
