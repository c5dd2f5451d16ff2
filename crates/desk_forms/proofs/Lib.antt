pub mod Common
pub mod CountLemmas
pub mod CountedQueries
pub mod PathLemmas
pub mod QueryLemmas
pub mod SayingLemmas
