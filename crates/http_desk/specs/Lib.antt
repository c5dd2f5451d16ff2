pub mod Records
pub mod RecordReading
pub mod Finds
pub mod RecordLists
pub mod Replaying
pub mod ReplaySteps
pub mod ReplayRuns
