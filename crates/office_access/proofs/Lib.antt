pub mod Common
pub mod RowsTold
pub mod ServedBy
pub mod FirstTold
pub mod TellsNothing
pub mod RowsRead
pub mod Lemmas
