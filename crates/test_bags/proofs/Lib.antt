pub mod ManyLemmas
pub mod MarkLemmas
