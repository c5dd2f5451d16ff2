pub mod Common
pub mod ServingLemmas
pub mod RefusalLemmas
mod NoteLemmas
