pub mod Common
pub mod AskingLemmas
pub mod DeedLemmas
pub mod ListeningLemmas
pub mod PrintingLemmas
pub mod ReplayingLemmas
pub mod StoreLemmas
pub mod WorkLemmas
