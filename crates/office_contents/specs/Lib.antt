pub mod Faults
pub mod Schema
pub mod Stored
pub mod Versions
pub mod Tables
pub mod Calls
pub mod Contents
pub mod Files
