pub mod Common
pub mod DueDaysByRows
