pub mod Common
pub mod Days
pub mod ComesTo
pub mod DecidedAlike
