pub mod Common
pub mod ExplainLemmas
pub mod KnownLemmas
pub mod CheckLemmas
pub mod PolicyLemmas
pub mod DayLemmas
pub mod Lemmas
