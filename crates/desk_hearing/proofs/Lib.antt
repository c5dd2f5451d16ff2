pub mod Common
pub mod HearingLemmas
pub mod JudgingLemmas
pub mod OneHearing
pub mod ReadingLemmas
pub mod RefusalLemmas
pub mod RequestLemmas
pub mod Lemmas
