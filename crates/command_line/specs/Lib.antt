pub mod Lines
pub mod Usage
pub mod CommandBuilding
