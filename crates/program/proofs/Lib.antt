pub mod AnswerLemmas
pub mod StoreLemmas
