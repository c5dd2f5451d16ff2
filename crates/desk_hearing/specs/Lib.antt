pub mod Asking
pub mod Hearing
pub mod Faults
pub mod Steps
pub mod Reading
pub mod Requests
pub mod Refused
