pub mod LoggingLemmas
pub mod WatchingLemmas
